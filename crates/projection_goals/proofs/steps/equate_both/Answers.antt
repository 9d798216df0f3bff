use Rattle.std.proofs.Common.{◌≡◌, ap, ◌∙◌, sym, Some, None, IfOk, IfErr}
use Rattle.std.proofs.lemmas.Result.{err_from_is_err_and}
use Rattle.ir_trees.specs.Syntax.Words.{env_forest, ty_tree}
use Rattle.ir_trees.specs.Unification.Substitutions.{alone}
use Rattle.ir_trees.proofs.Growth.Kept.{ty-kept}
use Rattle.candidate_eval.specs.declared.eval.refusal.NoSolutionOrStop.TheVariants.{NoSolution}
use Rattle.candidate_eval.specs.Interface.Accounts.StopsSomehow.{asking}
use Rattle.candidate_eval.specs.Interface.Evaluators.{accepted}
use Rattle.candidate_eval.specs.Judges.States.{next}
use Rattle.candidate_eval.proofs.Interface.Accounts.{accounted-here, accounted-later, by-stop, reaches}
use Rattle.candidate_eval.proofs.Dynamic.Objects.{env-kept}
use Rattle.candidate_eval.proofs.Interface.Probing.{then}
use Rattle.candidate_assembly.proofs.Calls.Causes.{caused, so-ok, so-err}
use Rattle.projection_goals.proofs.steps.equate_both.Goals as goal

pub returns-in_err-eq_args-clause-refused : goal.returns-in_err-eq_args-clause-refused
returns-in_err-eq_args-clause-refused g c =
    let E = g.E.EvalCtxt in
    let ts = (g.E.Build.context c.args.ecx.now).trees in
    let J = E.judge (E.fixed c.args.ecx.now) in
    let e = env_forest ts c.args.env in
    let p = err_from_is_err_and c.from_residual.result c.from_residual.ensures.1 in
    rw p.1 (λ n. ap (λ o. next o (λ T. accepted J T e (alone (ty_tree ts c.args.term)) (alone (ty_tree ts c.args.other_term)))) (c.in_err-eq_args.ensures.refused (sym p.2 ∙ n)))

pub returns-in_err-eq_args-clause-cause : goal.returns-in_err-eq_args-clause-cause
returns-in_err-eq_args-clause-cause g c =
    let p = err_from_is_err_and c.from_residual.result c.from_residual.ensures.1 in
    rw (p.1, p.2) (by-stop c.in_err-eq_args.field-0.0 (λ s x. asking (accounted-here _ (reaches c.eq_args.ensures.kept) x)) c.in_err-eq_args.ensures.cause)

pub eq-requires-clause-env : goal.eq-requires-clause-env
eq-requires-clause-env g c = (env-kept _ _ c.args.env c.eq_args.ensures.kept.grows c.requires.env).0

pub eq-requires-clause-left : goal.eq-requires-clause-left
eq-requires-clause-left g c = (ty-kept _ _ c.args.term c.eq_args.ensures.kept.grows c.requires.term).0

pub eq-requires-clause-right : goal.eq-requires-clause-right
eq-requires-clause-right g c = (ty-kept _ _ c.args.other_term c.eq_args.ensures.kept.grows c.requires.other_term).0

pub returns-clause-kept : goal.returns-clause-kept
returns-clause-kept g c = then c.eq_args.ensures.kept c.eq.ensures.kept

pub returns-clause-ok : goal.returns-clause-ok
returns-clause-ok g c =
    let E = g.E.EvalCtxt in
    let ts = (g.E.Build.context c.args.ecx.now).trees in
    let J = E.judge (E.fixed c.args.ecx.now) in
    let e = env_forest ts c.args.env in
    let x = alone (ty_tree ts c.args.term) in
    let y = alone (ty_tree ts c.args.other_term) in
    let k = c.eq_args.ensures.kept in
    let ok : IfOk c.eq.result (λ _. accepted J (E.state c.eq_args.new.self) e x y ≡ Some (E.state c.eq.new.self))
    = rw (k.fixed_same, (env-kept _ _ c.args.env k.grows c.requires.env).1, (ty-kept _ _ c.args.term k.grows c.requires.term).1, (ty-kept _ _ c.args.other_term k.grows c.requires.other_term).1) at c.eq.ensures.ok in
    so-ok c.eq.result (λ u h. ap (λ o. next o (λ T. accepted J T e x y)) c.in_ok-eq_args.ensures.ok ∙ h) ok

pub returns-clause-refused : goal.returns-clause-refused
returns-clause-refused g c =
    let E = g.E.EvalCtxt in
    let ts = (g.E.Build.context c.args.ecx.now).trees in
    let J = E.judge (E.fixed c.args.ecx.now) in
    let e = env_forest ts c.args.env in
    let x = alone (ty_tree ts c.args.term) in
    let y = alone (ty_tree ts c.args.other_term) in
    let k = c.eq_args.ensures.kept in
    let refused : IfErr c.eq.result (λ w. w ≡ NoSolution → accepted J (E.state c.eq_args.new.self) e x y ≡ None)
    = rw (k.fixed_same, (env-kept _ _ c.args.env k.grows c.requires.env).1, (ty-kept _ _ c.args.term k.grows c.requires.term).1, (ty-kept _ _ c.args.other_term k.grows c.requires.other_term).1) at c.eq.ensures.refused in
    so-err c.eq.result (λ w h n. ap (λ o. next o (λ T. accepted J T e x y)) c.in_ok-eq_args.ensures.ok ∙ h n) refused

pub returns-clause-cause : goal.returns-clause-cause
returns-clause-cause g c =
    caused c.eq.result (λ s x. asking (accounted-later (reaches c.eq_args.ensures.kept) (accounted-here _ (reaches c.eq.ensures.kept) x))) c.eq.ensures.cause

use Rattle.std.proofs.Common.{ap, ◌∙◌, sym}
use Rattle.std.proofs.lemmas.Result.{err_from_is_err_and}
use Rattle.ir_trees.specs.Syntax.Words.{env_forest, ty_tree}
use Rattle.ir_trees.specs.Unification.Substitutions.{alone}
use Rattle.ir_trees.proofs.Growth.Kept.{ty-kept}
use Rattle.candidate_eval.specs.Interface.Accounts.StopsSomehow.{asking}
use Rattle.candidate_eval.specs.Interface.Evaluators.{accepted}
use Rattle.candidate_eval.specs.Judges.States.{next}
use Rattle.candidate_eval.proofs.Dynamic.Objects.{env-kept}
use Rattle.candidate_eval.proofs.Interface.Accounts.{accounted-here, accounted-later, reaches}
use Rattle.candidate_eval.proofs.Interface.Probing.{then}
use Rattle.candidate_assembly.proofs.Calls.Causes.{caused, so-err, so-ok}
use Rattle.projection_goals.proofs.callable.equate_called.Goals as goal

pub returns-in_err-equate_inputs-clause-refused : goal.returns-in_err-equate_inputs-clause-refused
returns-in_err-equate_inputs-clause-refused g c =
    let E = g.E.EvalCtxt in
    let ts = (g.E.Build.context c.args.ecx.now).trees in
    let J = E.judge (E.fixed c.args.ecx.now) in
    let p = err_from_is_err_and c.from_residual.result c.from_residual.ensures.1 in
    rw p.1 (λ n. ap (λ o. next o (λ T. accepted J T (env_forest ts c.args.env) (alone (ty_tree ts c.args.term)) (alone (ty_tree ts c.args.called.1)))) (c.in_err-equate_inputs.ensures.refused (sym p.2 ∙ n)))

pub returns-in_err-equate_inputs-clause-cause : goal.returns-in_err-equate_inputs-clause-cause
returns-in_err-equate_inputs-clause-cause g c =
    let p = err_from_is_err_and c.from_residual.result c.from_residual.ensures.1 in
    rw (p.1, p.2) c.in_err-equate_inputs.ensures.cause

pub eq-requires-clause-env : goal.eq-requires-clause-env
eq-requires-clause-env g c = (env-kept _ _ c.args.env c.equate_inputs.ensures.kept.grows c.requires.env).0

pub eq-requires-clause-left : goal.eq-requires-clause-left
eq-requires-clause-left g c = (ty-kept _ _ c.args.term c.equate_inputs.ensures.kept.grows c.requires.term).0

pub eq-requires-clause-right : goal.eq-requires-clause-right
eq-requires-clause-right g c = (ty-kept _ _ c.args.called.1 c.equate_inputs.ensures.kept.grows c.requires.output).0

pub returns-clause-kept : goal.returns-clause-kept
returns-clause-kept g c = then c.equate_inputs.ensures.kept c.eq.ensures.kept

pub returns-clause-ok : goal.returns-clause-ok
returns-clause-ok g c =
    let E = g.E.EvalCtxt in
    let old = g.E.Build.context c.args.ecx.now in
    let mid = g.E.Build.context c.equate_inputs.new.ecx in
    let J = E.judge (E.fixed c.args.ecx.now) in
    let kept = c.equate_inputs.ensures.kept in
    let ok = rw (
      kept.fixed_same,
      (env-kept old mid c.args.env kept.grows c.requires.env).1,
      (ty-kept old mid c.args.term kept.grows c.requires.term).1,
      (ty-kept old mid c.args.called.1 kept.grows c.requires.output).1,
    ) at c.eq.ensures.ok in
    so-ok c.eq.result (λ r h. ap (λ o. next o (λ T. accepted J T (env_forest old.trees c.args.env) (alone (ty_tree old.trees c.args.term)) (alone (ty_tree old.trees c.args.called.1)))) c.in_ok-equate_inputs.ensures.ok ∙ h) ok

pub returns-clause-refused : goal.returns-clause-refused
returns-clause-refused g c =
    let E = g.E.EvalCtxt in
    let old = g.E.Build.context c.args.ecx.now in
    let mid = g.E.Build.context c.equate_inputs.new.ecx in
    let J = E.judge (E.fixed c.args.ecx.now) in
    let kept = c.equate_inputs.ensures.kept in
    let refused = rw (
      kept.fixed_same,
      (env-kept old mid c.args.env kept.grows c.requires.env).1,
      (ty-kept old mid c.args.term kept.grows c.requires.term).1,
      (ty-kept old mid c.args.called.1 kept.grows c.requires.output).1,
    ) at c.eq.ensures.refused in
    so-err c.eq.result (λ e h n. ap (λ o. next o (λ T. accepted J T (env_forest old.trees c.args.env) (alone (ty_tree old.trees c.args.term)) (alone (ty_tree old.trees c.args.called.1)))) c.in_ok-equate_inputs.ensures.ok ∙ h n) refused

pub returns-clause-cause : goal.returns-clause-cause
returns-clause-cause g c =
    caused c.eq.result (λ s x. asking (accounted-later (reaches c.equate_inputs.ensures.kept) (accounted-here _ (reaches c.eq.ensures.kept) x))) c.eq.ensures.cause

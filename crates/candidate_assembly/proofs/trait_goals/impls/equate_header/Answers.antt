use Rattle.std.proofs.Common.{◌≡◌, refl, Some, None, IfOk, IfErr}
use Rattle.std.proofs.lemmas.Result.{IfErr-weaker, IfOk-weaker, err_from_is_err_and}
use Rattle.ir_trees.specs.Instantiation.Folding.{substituted}
use Rattle.ir_trees.specs.Syntax.Trees.{ArgumentsKind}
use Rattle.ir_trees.specs.Syntax.Words.{args_forest, env_forest}
use Rattle.ir_trees.proofs.Instantiation.Folding.{substituted-nothing}
use Rattle.ir_trees.proofs.Growth.Kept.{args-kept, grows-refl}
use Rattle.ir_folds.proofs.Instantiation.Substituting.{list-there}
use Rattle.candidate_eval.specs.declared.eval.refusal.NoSolutionOrStop.TheVariants.{NoSolution}
use Rattle.candidate_eval.specs.Interface.Accounts.StopsSomehow.{asking, making}
use Rattle.candidate_eval.specs.Interface.Evaluators.{accepted}
use Rattle.candidate_eval.proofs.Interface.Accounts.{accounted-here, accounted-later, by-stop, reaches}
use Rattle.candidate_eval.proofs.Dynamic.Objects.{env-kept}
use Rattle.candidate_eval.proofs.Interface.Probing.{then}
use Rattle.candidate_assembly.specs.Answers.Telling.{standing}
use Rattle.candidate_assembly.proofs.Calls.Stepping.{equation-reaches, equation-refuses}
use Rattle.candidate_eval.specs.Interface.Unmade.IsUnmade.{of_trees}
use Rattle.candidate_eval.specs.Interface.Unmade.IsMade.{with_arguments}
use Rattle.candidate_assembly.proofs.trait_goals.impls.equate_header.Goals as goal

pub substitute-requires-clause-there : goal.substitute-requires-clause-there
substitute-requires-clause-there g c =
    let ts = (g.E.Build.context c.args.ecx.now).trees in
    list-there (args_forest ts c.args.locals) ts c.args.header.0 ArgumentsKind refl refl c.requires.header c.requires.there

pub returns-in_err-header-clause-cause : goal.returns-in_err-header-clause-cause
returns-in_err-header-clause-cause g c =
    let p = err_from_is_err_and c.from_residual.result c.from_residual.ensures.1 in
    rw (p.1, p.2) (making
    (of_trees (g.E.Build.context c.args.ecx.now) (grows-refl _) c.substitute.ensures.kept.grows (with_arguments ArgumentsKind c.args.header.0 c.args.locals.0) c.in_err-header.ensures.cause))

pub eq_args-requires-clause-env : goal.eq_args-requires-clause-env
eq_args-requires-clause-env g c = (env-kept _ _ c.args.env c.substitute.ensures.kept.grows c.requires.env).0

pub eq_args-requires-clause-left : goal.eq_args-requires-clause-left
eq_args-requires-clause-left g c = (args-kept _ _ c.args.args c.substitute.ensures.kept.grows c.requires.args).0

pub returns-clause-kept : goal.returns-clause-kept
returns-clause-kept g c = then c.substitute.ensures.kept c.eq_args.ensures.kept

pub returns-clause-ok : goal.returns-clause-ok
returns-clause-ok g c =
    let E = g.E.EvalCtxt in
    let ts = (g.E.Build.context c.args.ecx.now).trees in
    let J = E.judge (E.fixed c.args.ecx.now) in
    let S = E.state c.args.ecx.now in
    let e = env_forest ts c.args.env in
    let ls = args_forest ts c.args.locals in
    let a = args_forest ts c.args.args in
    let b = args_forest ts c.args.header in
    let kept = c.substitute.ensures.kept in
    let ok : IfOk c.eq_args.result (λ _. accepted J S e a (substituted ls 0 b) ≡ Some (E.state c.eq_args.new.self))
    = rw (kept.fixed_same, c.substitute.ensures.same, (env-kept _ _ c.args.env kept.grows c.requires.env).1, (args-kept _ _ c.args.args kept.grows c.requires.args).1, c.in_ok-header.ensures.list refl) at c.eq_args.ensures.ok in
    IfOk-weaker c.eq_args.result _ _
    (λ u h. equation-reaches J e (standing S ls) a b a (substituted ls 0 b) (E.state c.eq_args.new.self) (substituted-nothing ls 0 a c.requires.no_parameter) refl h) ok

pub returns-clause-refused : goal.returns-clause-refused
returns-clause-refused g c =
    let E = g.E.EvalCtxt in
    let ts = (g.E.Build.context c.args.ecx.now).trees in
    let J = E.judge (E.fixed c.args.ecx.now) in
    let S = E.state c.args.ecx.now in
    let e = env_forest ts c.args.env in
    let ls = args_forest ts c.args.locals in
    let a = args_forest ts c.args.args in
    let b = args_forest ts c.args.header in
    let kept = c.substitute.ensures.kept in
    let refused : IfErr c.eq_args.result (λ x. x ≡ NoSolution → accepted J S e a (substituted ls 0 b) ≡ None)
    = rw (kept.fixed_same, c.substitute.ensures.same, (env-kept _ _ c.args.env kept.grows c.requires.env).1, (args-kept _ _ c.args.args kept.grows c.requires.args).1, c.in_ok-header.ensures.list refl) at c.eq_args.ensures.refused in
    IfErr-weaker c.eq_args.result _ _
    (λ x h is. equation-refuses J e (standing S ls) a b a (substituted ls 0 b) (substituted-nothing ls 0 a c.requires.no_parameter) refl (h is)) refused

pub returns-clause-cause : goal.returns-clause-cause
returns-clause-cause g c =
    IfErr-weaker c.eq_args.result _ _ (λ e h. by-stop e (λ s x. asking (accounted-later (reaches c.substitute.ensures.kept) (accounted-here _ (reaches c.eq_args.ensures.kept) x))) h) c.eq_args.ensures.cause

use Rattle.std.proofs.Common.{◌≡◌, sym, ◌∙◌, ap, subst, Some, None, IfOk, IfErr}
use Rattle.std.proofs.lemmas.Result.{err_from_is_err_and}
use Rattle.candidate_eval.specs.declared.eval.refusal.NoSolutionOrStop.TheVariants.{NoSolution}
use Rattle.ir_trees.specs.Declarations.Context.{Context}
use Rattle.ir_trees.specs.Declarations.References.{ArgumentsFit}
use Rattle.ir_trees.specs.Syntax.Words.{IsArgs, args_forest, clause_tree}
use Rattle.ir_trees.proofs.Growth.Kept.{args-kept}
use Rattle.candidate_eval.specs.Interface.Accounts.StopsSomehow.{asking}
use Rattle.candidate_eval.specs.Interface.Evaluators.{accepted}
use Rattle.candidate_eval.specs.Dynamic.ObjectRequirements.{arguments_of}
use Rattle.candidate_eval.specs.Dynamic.Objects.{fresh_instance, with_instance}
use Rattle.candidate_eval.proofs.Interface.Accounts.{accounted-here, instance-made, reaches, somehow, somehow-later}
use Rattle.candidate_eval.proofs.Dynamic.Objects.{env-kept}
use Rattle.candidate_eval.proofs.Interface.Probing.{then}
use Rattle.candidate_assembly.specs.Goals.TraitGoals.{trait_goal}
use Rattle.candidate_assembly.proofs.Calls.Causes.{caused, so-ok, so-err}
use Rattle.candidate_assembly.proofs.Goals.Clauses.{matching-reaches, matching-refuses, passes-unified}
use Rattle.candidate_assembly.proofs.trait_goals.matching.equate_clause.Goals as goal

pub returns-in_err-instance-clause-cause : goal.returns-in_err-instance-clause-cause
returns-in_err-instance-clause-cause g c =
    let p = err_from_is_err_and c.from_residual.result c.from_residual.ensures.1 in
    rw (p.1, p.2) (somehow (reaches c.in_err-instance.ensures.kept) (λ ts i. instance-made _ c.args.clause.0 i) c.in_err-instance.ensures.cause)

pub eq_args-requires-clause-env : goal.eq_args-requires-clause-env
eq_args-requires-clause-env g c = (env-kept _ _ c.args.env c.instantiate_clause_with_infer.ensures.kept.grows c.requires.goal.env).0

pub eq_args-requires-clause-left : goal.eq_args-requires-clause-left
eq_args-requires-clause-left g c = (args-kept _ _ c.args.predicate.trait_ref.args c.instantiate_clause_with_infer.ensures.kept.grows c.requires.goal.arguments).0

pub returns-clause-kept : goal.returns-clause-kept
returns-clause-kept g c = then c.instantiate_clause_with_infer.ensures.kept c.eq_args.ensures.kept

pub returns-clause-ok : goal.returns-clause-ok
returns-clause-ok g c =
    let E = g.E.EvalCtxt in
    let before = g.E.Build.context c.args.ecx.now in
    let after = g.E.Build.context c.instantiate_clause_with_infer.new.ecx in
    let J = E.judge (E.fixed c.args.ecx.now) in
    let S = E.state c.args.ecx.now in
    let goal-here = trait_goal before.trees c.args.env c.args.predicate in
    let t = clause_tree before.trees c.args.clause in
    let x = c.in_ok-instance.instance in
    let r = c.in-Some.said.trait_ref in
    let kept = c.instantiate_clause_with_infer.ensures.kept in
    let read = subst (λ (y : Context). IsArgs y.trees r.args × ArgumentsFit y r × (arguments_of (clause_tree y.trees x) ≡ args_forest y.trees r.args)) c.cx.ensures c.in-Some.ensures.fits in
    let args-are : args_forest after.trees r.args ≡ arguments_of (fresh_instance S t) = sym read.2 ∙ ap arguments_of c.in_ok-instance.ensures.tree in
    let ok : IfOk c.eq_args.result (λ _. accepted J (with_instance S t) goal-here.env goal-here.reference.arguments (arguments_of (fresh_instance S t)) ≡ Some (E.state c.eq_args.new.self))
    = rw (kept.fixed_same, c.in_ok-instance.ensures.state, (env-kept _ _ c.args.env kept.grows c.requires.goal.env).1, (args-kept _ _ c.args.predicate.trait_ref.args kept.grows c.requires.goal.arguments).1, args-are) at c.eq_args.ensures.ok in
    let unified = (passes-unified before goal-here t c.requires.matches.passes).1 in
    so-ok c.eq_args.result (λ u h. matching-reaches J S goal-here t c.requires.goal.no_parameter c.requires.matches.no_parameter unified (E.state c.eq_args.new.self) h) ok

pub returns-clause-refused : goal.returns-clause-refused
returns-clause-refused g c =
    let E = g.E.EvalCtxt in
    let before = g.E.Build.context c.args.ecx.now in
    let after = g.E.Build.context c.instantiate_clause_with_infer.new.ecx in
    let J = E.judge (E.fixed c.args.ecx.now) in
    let S = E.state c.args.ecx.now in
    let goal-here = trait_goal before.trees c.args.env c.args.predicate in
    let t = clause_tree before.trees c.args.clause in
    let x = c.in_ok-instance.instance in
    let r = c.in-Some.said.trait_ref in
    let kept = c.instantiate_clause_with_infer.ensures.kept in
    let read = subst (λ (y : Context). IsArgs y.trees r.args × ArgumentsFit y r × (arguments_of (clause_tree y.trees x) ≡ args_forest y.trees r.args)) c.cx.ensures c.in-Some.ensures.fits in
    let args-are : args_forest after.trees r.args ≡ arguments_of (fresh_instance S t) = sym read.2 ∙ ap arguments_of c.in_ok-instance.ensures.tree in
    let refused : IfErr c.eq_args.result (λ e. e ≡ NoSolution → accepted J (with_instance S t) goal-here.env goal-here.reference.arguments (arguments_of (fresh_instance S t)) ≡ None)
    = rw (kept.fixed_same, c.in_ok-instance.ensures.state, (env-kept _ _ c.args.env kept.grows c.requires.goal.env).1, (args-kept _ _ c.args.predicate.trait_ref.args kept.grows c.requires.goal.arguments).1, args-are) at c.eq_args.ensures.refused in
    let unified = (passes-unified before goal-here t c.requires.matches.passes).1 in
    so-err c.eq_args.result (λ e h n. matching-refuses J S goal-here t c.requires.goal.no_parameter c.requires.matches.no_parameter unified (h n)) refused

pub returns-clause-cause : goal.returns-clause-cause
returns-clause-cause g c =
    let kept = c.instantiate_clause_with_infer.ensures.kept in
    caused c.eq_args.result (λ s x. somehow-later (reaches kept) (asking (accounted-here _ (reaches c.eq_args.ensures.kept) x))) c.eq_args.ensures.cause

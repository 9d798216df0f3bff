use Rattle.std.proofs.Common.{◌≡◌, sym, ◌∙◌, ap, subst, Some, None, IfOk, IfErr}
use Rattle.std.proofs.lemmas.Result.{err_from_is_err_and}
use Rattle.ir_trees.specs.Declarations.Context.{Context}
use Rattle.ir_trees.specs.Syntax.Words.{args_forest, clause_tree, ty_tree}
use Rattle.ir_trees.specs.Unification.Substitutions.{alone}
use Rattle.ir_trees.proofs.Growth.Kept.{args-kept, ty-kept}
use Rattle.candidate_eval.specs.declared.eval.refusal.NoSolutionOrStop.TheVariants.{NoSolution}
use Rattle.candidate_eval.specs.Dynamic.Objects.{IsBound, arguments_in, fresh_instance, term_in, with_instance}
use Rattle.candidate_eval.proofs.Dynamic.Objects.{env-kept}
use Rattle.candidate_eval.proofs.Interface.Accounts.{instance-made, reaches, somehow, somehow-later}
use Rattle.candidate_eval.proofs.Interface.Probing.{then}
use Rattle.candidate_assembly.proofs.Calls.Causes.{caused, so-ok, so-err}
use Rattle.projection_goals.specs.Equations.{both_accepted}
use Rattle.projection_goals.specs.Normalizing.{normalizes_goal}
use Rattle.projection_goals.specs.NormalizingLaws.{term-is}
use Rattle.projection_goals.proofs.Clauses.{matching-reaches, matching-refuses, passes-unified}
use Rattle.projection_goals.proofs.matching.equate_clause.Goals as goal

pub returns-in_err-instance-clause-cause : goal.returns-in_err-instance-clause-cause
returns-in_err-instance-clause-cause g c =
    let p = err_from_is_err_and c.from_residual.result c.from_residual.ensures.1 in
    rw (p.1, p.2) (somehow (reaches c.in_err-instance.ensures.kept) (λ ts i. instance-made _ c.args.clause.0 i) c.in_err-instance.ensures.cause)

pub equate_both-requires-clause-env : goal.equate_both-requires-clause-env
equate_both-requires-clause-env g c = (env-kept _ _ c.args.env c.instantiate_clause_with_infer.ensures.kept.grows c.requires.goal.env).0

pub equate_both-requires-clause-args : goal.equate_both-requires-clause-args
equate_both-requires-clause-args g c = (args-kept _ _ c.args.predicate.alias.args c.instantiate_clause_with_infer.ensures.kept.grows c.requires.goal.arguments).0

pub equate_both-requires-clause-term : goal.equate_both-requires-clause-term
equate_both-requires-clause-term g c =
    (ty-kept _ _ c.args.predicate.term c.instantiate_clause_with_infer.ensures.kept.grows (term-is (g.E.Build.context c.args.ecx.now) c.args.env c.args.predicate c.requires.goal)).0

pub returns-clause-kept : goal.returns-clause-kept
returns-clause-kept g c = then c.instantiate_clause_with_infer.ensures.kept c.equate_both.ensures.kept

pub returns-clause-ok : goal.returns-clause-ok
returns-clause-ok g c =
    let E = g.E.EvalCtxt in
    let before = g.E.Build.context c.args.ecx.now in
    let after = g.E.Build.context c.instantiate_clause_with_infer.new.ecx in
    let J = E.judge (E.fixed c.args.ecx.now) in
    let S = E.state c.args.ecx.now in
    let p = c.args.predicate in
    let goal-here = normalizes_goal before.trees c.args.env p in
    let t = clause_tree before.trees c.args.clause in
    let x = c.in_ok-instance.instance in
    let kept = c.instantiate_clause_with_infer.ensures.kept in
    let read = subst (λ (y : Context). IsBound y.trees (clause_tree y.trees x) c.in-Some.said) c.cx.ensures c.in-Some.ensures.0 in
    let args-are : args_forest after.trees c.in-Some.said.projection_term.args ≡ arguments_in (fresh_instance S t) = sym read.arguments_are ∙ ap arguments_in c.in_ok-instance.ensures.tree in
    let term-here : ty_tree after.trees c.in-Some.said.term ≡ term_in (fresh_instance S t) = sym read.term_is ∙ ap term_in c.in_ok-instance.ensures.tree in
    let ok : IfOk c.equate_both.result (λ _. both_accepted J (with_instance S t) goal-here.env goal-here.arguments (arguments_in (fresh_instance S t)) goal-here.term (alone (term_in (fresh_instance S t))) ≡ Some (E.state c.equate_both.new.ecx))
    = rw (kept.fixed_same, c.in_ok-instance.ensures.state, (env-kept _ _ c.args.env kept.grows c.requires.goal.env).1, (args-kept _ _ p.alias.args kept.grows c.requires.goal.arguments).1, (ty-kept _ _ p.term kept.grows (term-is before c.args.env p c.requires.goal)).1, args-are, term-here) at c.equate_both.ensures.ok in
    let unified = (passes-unified before goal-here t c.requires.matches.passes).1 in
    so-ok c.equate_both.result (λ u h. matching-reaches J S goal-here t c.requires.goal.no_parameter c.requires.matches.no_parameter unified (E.state c.equate_both.new.ecx) h) ok

pub returns-clause-refused : goal.returns-clause-refused
returns-clause-refused g c =
    let E = g.E.EvalCtxt in
    let before = g.E.Build.context c.args.ecx.now in
    let after = g.E.Build.context c.instantiate_clause_with_infer.new.ecx in
    let J = E.judge (E.fixed c.args.ecx.now) in
    let S = E.state c.args.ecx.now in
    let p = c.args.predicate in
    let goal-here = normalizes_goal before.trees c.args.env p in
    let t = clause_tree before.trees c.args.clause in
    let x = c.in_ok-instance.instance in
    let kept = c.instantiate_clause_with_infer.ensures.kept in
    let read = subst (λ (y : Context). IsBound y.trees (clause_tree y.trees x) c.in-Some.said) c.cx.ensures c.in-Some.ensures.0 in
    let args-are : args_forest after.trees c.in-Some.said.projection_term.args ≡ arguments_in (fresh_instance S t) = sym read.arguments_are ∙ ap arguments_in c.in_ok-instance.ensures.tree in
    let term-here : ty_tree after.trees c.in-Some.said.term ≡ term_in (fresh_instance S t) = sym read.term_is ∙ ap term_in c.in_ok-instance.ensures.tree in
    let refused : IfErr c.equate_both.result (λ e. e ≡ NoSolution → both_accepted J (with_instance S t) goal-here.env goal-here.arguments (arguments_in (fresh_instance S t)) goal-here.term (alone (term_in (fresh_instance S t))) ≡ None)
    = rw (kept.fixed_same, c.in_ok-instance.ensures.state, (env-kept _ _ c.args.env kept.grows c.requires.goal.env).1, (args-kept _ _ p.alias.args kept.grows c.requires.goal.arguments).1, (ty-kept _ _ p.term kept.grows (term-is before c.args.env p c.requires.goal)).1, args-are, term-here) at c.equate_both.ensures.refused in
    let unified = (passes-unified before goal-here t c.requires.matches.passes).1 in
    so-err c.equate_both.result (λ e h n. matching-refuses J S goal-here t c.requires.goal.no_parameter c.requires.matches.no_parameter unified (h n)) refused

pub returns-clause-cause : goal.returns-clause-cause
returns-clause-cause g c =
    caused c.equate_both.result (λ s x. somehow-later (reaches c.instantiate_clause_with_infer.ensures.kept) x) c.equate_both.ensures.cause

use Rattle.std.proofs.Common.{◌∙◌, ap, sym, refl, true, false}
use Rattle.ir_trees.specs.declared.ir.unify.RightSide.TheVariants.{Plain}
use Rattle.ir_trees.specs.Unification.Unify.{may_unify}
use Rattle.ir_trees.specs.Syntax.Words.{args_forest, clause_tree}
use Rattle.candidate_assembly.specs.Goals.TraitGoals.{trait_goal}
use Rattle.candidate_assembly.proofs.Goals.Clauses.{passes-said}
use Rattle.candidate_assembly.proofs.trait_goals.matching.fast_reject.Goals as goal

pub returns-in-Some-clause-passes : goal.returns-in-Some-clause-passes
returns-in-Some-clause-passes c env =
    let ts = c.args.cx.now.trees in
    passes-said c.args.cx.now (trait_goal ts env c.args.predicate) (clause_tree ts c.args.clause) _ _ true true c.in-Some.ensures.said (c.if-fits.ensures env)
    (c.if-args_may_unify.ensures.is ∙ ap (may_unify Plain (args_forest ts c.args.predicate.trait_ref.args)) (sym c.in-Some.ensures.fits.2))

pub returns-in_default-2-clause-rejected : goal.returns-in_default-2-clause-rejected
returns-in_default-2-clause-rejected c env =
    let ts = c.args.cx.now.trees in
    passes-said c.args.cx.now (trait_goal ts env c.args.predicate) (clause_tree ts c.args.clause) _ _ false _ c.in-Some.ensures.said (c.if-fits.ensures env) refl

use Rattle.std.proofs.Common.{◌∙◌, ap, sym, true}
use Rattle.ir_trees.specs.declared.ir.unify.RightSide.TheVariants.{Plain}
use Rattle.ir_trees.specs.Unification.Unify.{may_unify}
use Rattle.ir_trees.specs.Syntax.Words.{args_forest, clause_tree}
use Rattle.projection_goals.specs.Normalizing.{normalizes_goal}
use Rattle.projection_goals.proofs.Clauses.{passes-about}
use Rattle.projection_goals.proofs.matching.fast_reject.Goals as goal

pub returns-in-Some-clause-passes : goal.returns-in-Some-clause-passes
returns-in-Some-clause-passes c env =
    let ts = c.args.cx.now.trees in
    passes-about c.args.cx.now (normalizes_goal ts env c.args.predicate) (clause_tree ts c.args.clause) true c.in-Some.ensures.1
    (c.if-args_may_unify.ensures.is ∙ ap (may_unify Plain (args_forest ts c.args.predicate.alias.args)) (sym c.in-Some.ensures.0.arguments_are))

use Rattle.std.proofs.Common.{◌≡◌, length, reverse, IfOk, subst}
use Rattle.std.specs.Prelude.{IfErr}
use Rattle.ir_trees.specs.Instantiation.Folding.{IsSubstStop}
use Rattle.ir_trees.specs.Unification.Substitutions.{alone}
use Rattle.ir_trees.specs.Syntax.Words.{clause_tree}
use Rattle.candidate_eval.specs.Judges.States.{resolved_tree}
use Rattle.candidate_rounds.specs.Evaluators.Known.{Evaluator, state}
use Rattle.candidate_rounds.proofs.Evaluators.Between.{parts}
use Rattle.candidate_rounds.proofs.Snapshots.Holding.{kinds-now}
use Rattle.candidate_rounds.proofs.Evaluators.Interface.{made-goes, made-kept, made-same}
use Rattle.candidate_rounds.proofs.Snapshots.ResolvedValues.{evaluator-grown}
use Rattle.candidate_rounds.proofs.rounds.evaluator.RoundsEvalCtxt.resolve_clause_if_possible.Goals as goal

pub resolved-requires-clause-known : goal.resolved-requires-clause-known
resolved-requires-clause-known c = (parts c.self.invariant).consistent.known

pub resolved-requires-clause-kinds : goal.resolved-requires-clause-kinds
resolved-requires-clause-kinds c = kinds-now c.self.inside.cx.trees c.self.inside.inference (reverse c.self.inside.probes.items) (parts c.self.invariant).consistent

pub invariant_of-self : goal.invariant_of-self
invariant_of-self c = evaluator-grown _ _ _ _ _ _ _ c.resolved.ensures.grows c.self.invariant

pub returns-clause-goes : goal.returns-clause-goes
returns-clause-goes c = made-goes c.self.view_is c.resolved.ensures.grows c.resolved.ensures.faults

pub returns-clause-kept : goal.returns-clause-kept
returns-clause-kept c = made-kept c.self.view_is c.resolved.ensures.grows c.resolved.ensures.faults c.self.invariant

pub returns-clause-same : goal.returns-clause-same
returns-clause-same c = made-same c.self.view_is c.resolved.ensures.grows c.resolved.ensures.faults c.self.invariant

pub returns-clause-tree : goal.returns-clause-tree
returns-clause-tree c =
    subst (λ (e : Evaluator). IfOk c.resolved.result (λ x. clause_tree c.resolved.new.cx.trees x ≡ resolved_tree (state e) (clause_tree e.context.trees c.args.clause))) c.self.view_is (c.resolved.ensures.tree c.self.inside.mode)

pub returns-clause-cause : goal.returns-clause-cause
returns-clause-cause c =
    subst (λ (e : Evaluator). IfErr c.resolved.result (λ s. IsSubstStop (length c.resolved.new.cx.trees) (alone (resolved_tree (state e) (clause_tree e.context.trees c.args.clause))) s)) c.self.view_is (c.resolved.ensures.cause c.self.inside.mode)

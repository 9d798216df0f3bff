use Rattle.std.proofs.Common.{IfErr, reverse, subst}
use Rattle.ir_trees.specs.Syntax.Words.{region_tree}
use Rattle.rounds_judge.specs.Equations.Scopes.{placed_tree}
use Rattle.candidate_rounds.specs.Evaluators.Known.{Evaluator}
use Rattle.candidate_rounds.specs.Evaluators.Stopping.{IsTreeStop}
use Rattle.candidate_rounds.proofs.Evaluators.Interface.{made-goes, made-same}
use Rattle.candidate_rounds.proofs.Snapshots.ResolvedValues.{evaluator-grown}
use Rattle.candidate_rounds.proofs.Stops.Stopping.{region-stop}
use Rattle.candidate_rounds.proofs.rounds.Rounds.placed_region.Goals as goal

pub invariant_of-self : goal.invariant_of-self
invariant_of-self c = evaluator-grown _ _ _ _ _ _ _ c.mk_region.ensures.made.kept c.self.invariant

pub returns-in-Some-clause-goes : goal.returns-in-Some-clause-goes
returns-in-Some-clause-goes c = made-goes c.self.view_is c.mk_region.ensures.made.kept c.mk_region.ensures.made.faults

pub returns-in-Some-clause-state : goal.returns-in-Some-clause-state
returns-in-Some-clause-state c = made-same c.self.view_is c.mk_region.ensures.made.kept c.mk_region.ensures.made.faults c.self.invariant

pub returns-in-Some-clause-cause : goal.returns-in-Some-clause-cause
returns-in-Some-clause-cause c =
    subst (λ (e : Evaluator). IfErr c.mk_region.result (λ s. IsTreeStop c.mk_region.new.self.trees (placed_tree (reverse c.args.universes.now) (region_tree e.context.trees c.args.region)) s)) c.self.view_is
    (region-stop c.self.inside.cx c.mk_region.new.self c.in-Some.placeholder _ c.mk_region.result c.mk_region.ensures.made.unchanged c.mk_region.ensures.made.cause)

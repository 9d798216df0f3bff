use Rattle.candidate_rounds.proofs.Evaluators.Interface.{made-same}
use Rattle.candidate_rounds.proofs.Snapshots.ResolvedValues.{evaluator-grown}
use Rattle.candidate_rounds.proofs.rounds.Rounds.goals_of.Goals as goal

pub invariant_of-self : goal.invariant_of-self
invariant_of-self c = evaluator-grown _ _ _ _ _ _ _ c.all_to_be.ensures.grows c.self.invariant

pub returns-clause-state : goal.returns-clause-state
returns-clause-state c = made-same c.self.view_is c.all_to_be.ensures.grows c.all_to_be.ensures.faults c.self.invariant

use Rattle.candidate_rounds.proofs.Evaluators.Interface.{made-goes, made-same}
use Rattle.candidate_rounds.proofs.Snapshots.ResolvedValues.{evaluator-grown}
use Rattle.candidate_rounds.proofs.rounds.Rounds.term_at.Goals as goal

pub invariant_of-self : goal.invariant_of-self
invariant_of-self c = evaluator-grown _ _ _ _ _ _ _ c.term.ensures.grows c.self.invariant

pub returns-clause-goes : goal.returns-clause-goes
returns-clause-goes c = made-goes c.self.view_is c.term.ensures.grows c.term.ensures.faults

pub returns-clause-state : goal.returns-clause-state
returns-clause-state c = made-same c.self.view_is c.term.ensures.grows c.term.ensures.faults c.self.invariant

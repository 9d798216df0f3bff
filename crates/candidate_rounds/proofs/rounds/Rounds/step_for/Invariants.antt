use Rattle.candidate_rounds.specs.Table.Running.{StaysBesideTable}
use Rattle.candidate_rounds.proofs.rounds.Rounds.step_for.Given as goal

abbrev pub invariant-loop-more : goal.invariant-loop-more
invariant-loop-more l = StaysBesideTable l.fn.self l.self

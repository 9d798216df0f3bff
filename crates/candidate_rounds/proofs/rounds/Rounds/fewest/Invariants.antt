use Rattle.candidate_rounds.specs.Table.Running.{StaysBesideTable}
use Rattle.candidate_rounds.proofs.rounds.Rounds.fewest.Given as goal

abbrev pub invariant-loop-back : goal.invariant-loop-back
invariant-loop-back l = StaysBesideTable l.fn.self l.self

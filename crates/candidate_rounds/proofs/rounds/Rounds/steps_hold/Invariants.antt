use Rattle.candidate_rounds.proofs.Table.Sources.{CheckedSoFar}
use Rattle.candidate_rounds.proofs.rounds.Rounds.steps_hold.Given as goal

abbrev pub invariant-loop-place : goal.invariant-loop-place
invariant-loop-place l = CheckedSoFar l.initial.self l.self l.steps l.place

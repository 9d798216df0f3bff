use Rattle.candidate_rounds.proofs.Table.Running.{WrittenSoFar}
use Rattle.rounds_judge.specs.Table.Rounds.{IsFinalEntry}
use Rattle.candidate_rounds.proofs.rounds.Rounds.all_written.Given as goal

abbrev pub invariant-loop-place : goal.invariant-loop-place
invariant-loop-place l = WrittenSoFar IsFinalEntry l.initial.self l.self l.place l.list.items

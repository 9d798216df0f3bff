use Rattle.candidate_rounds.proofs.Table.Running.{WrittenSoFar}
use Rattle.rounds_judge.specs.Table.Rounds.{AnyEntry}
use Rattle.candidate_rounds.proofs.rounds.Rounds.due_written.Given as goal

abbrev pub invariant-loop-place : goal.invariant-loop-place
invariant-loop-place l = WrittenSoFar AnyEntry l.initial.self l.self l.place l.list.items

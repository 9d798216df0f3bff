use Rattle.std.proofs.Common.{◌≤◌}
use Rattle.candidate_rounds.proofs.Table.Rounding.{RoundsOn}
use Rattle.candidate_rounds.proofs.rounds.Rounds.rounds.Given as goal

abbrev pub invariant-loop-next : goal.invariant-loop-next
invariant-loop-next l = RoundsOn l.initial.self l.self l.place l._next × (l._next ≤ l.rounds)

use Rattle.std.proofs.Common.{◌≤◌}
use Rattle.candidate_rounds.proofs.Table.Settled.{StepsOn}
use Rattle.rounds_judge.specs.Table.Rounds.{most_steps}
use Rattle.candidate_rounds.proofs.rounds.Rounds.settle_table.Given as goal

abbrev pub invariant-loop-next : goal.invariant-loop-next
invariant-loop-next l = StepsOn l.fn.self l.self l.place l._next × (l._next ≤ most_steps)

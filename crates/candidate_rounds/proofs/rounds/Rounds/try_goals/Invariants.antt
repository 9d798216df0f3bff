use Rattle.candidate_rounds.proofs.Stops.SettlingStops.{TriesOn}
use Rattle.candidate_rounds.proofs.rounds.Rounds.try_goals.Given as goal

abbrev pub invariant-loop-i : goal.invariant-loop-i
invariant-loop-i l = TriesOn l.fn.self l.self l.goals l.i l.staying.items

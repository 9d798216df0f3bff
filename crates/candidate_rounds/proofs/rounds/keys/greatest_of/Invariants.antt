use Rattle.candidate_rounds.proofs.Table.Keying.{IsGreatestTo}
use Rattle.candidate_rounds.proofs.rounds.keys.greatest_of.Given as goal

abbrev pub invariant-loop-i : goal.invariant-loop-i
invariant-loop-i l = IsGreatestTo l.variables l.i l.greatest

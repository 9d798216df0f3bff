use Rattle.candidate_rounds.proofs.Obligations.Places.{IsAfter}
use Rattle.candidate_rounds.proofs.rounds.responding.place_of.Given as goal

abbrev pub invariant-loop-i : goal.invariant-loop-i
invariant-loop-i l = IsAfter l.numbers l.number l.i

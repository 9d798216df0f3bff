use Rattle.candidate_rounds.proofs.Table.Writing.{AreTheSame}
use Rattle.candidate_rounds.proofs.rounds.writing.are_there.Given as goal

abbrev pub invariant-loop-i : goal.invariant-loop-i
invariant-loop-i l = AreTheSame l.entries.entries l.written l.i

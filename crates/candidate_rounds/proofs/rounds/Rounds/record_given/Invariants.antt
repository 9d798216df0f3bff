use Rattle.candidate_rounds.specs.Calls.Giving.{translation_of}
use Rattle.candidate_rounds.proofs.Table.Giving.{RecordedSoFar}
use Rattle.candidate_rounds.proofs.rounds.Rounds.record_given.Given as goal

abbrev pub invariant-loop-i : goal.invariant-loop-i
invariant-loop-i l = RecordedSoFar l.fn.self l.self (translation_of l.translation) l.constraints l.i

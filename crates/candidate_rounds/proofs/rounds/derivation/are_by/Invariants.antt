use Rattle.candidate_rounds.proofs.Table.Sources.{NoneSoFar}
use Rattle.candidate_rounds.proofs.rounds.derivation.are_by.Given as goal

abbrev pub invariant-loop-i : goal.invariant-loop-i
invariant-loop-i l = NoneSoFar l.candidates l.source l.response l.i

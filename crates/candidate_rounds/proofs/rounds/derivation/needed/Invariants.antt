use Rattle.candidate_rounds.proofs.Table.Needed.{LeftSoFar}
use Rattle.candidate_rounds.proofs.rounds.derivation.needed.Given as goal

abbrev pub invariant-loop-i : goal.invariant-loop-i
invariant-loop-i l = LeftSoFar l.steps l.marks.items l.kept.items l.places.items l.i

use Rattle.candidate_rounds.proofs.Equations.OpenParts.{KindsTo}
use Rattle.candidate_rounds.proofs.rounds.opening.kinds_of.Given as goal

abbrev pub invariant-loop-i : goal.invariant-loop-i
invariant-loop-i l = KindsTo l.kinds.items l.args l.i

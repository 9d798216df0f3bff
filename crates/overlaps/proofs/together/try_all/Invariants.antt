use Rattle.overlaps.proofs.Jointly.{TriedSoFar}
use Rattle.overlaps.proofs.together.try_all.Given as goal

-- the goals before were taken up, and these are left in their place
abbrev pub invariant-loop-i : goal.invariant-loop-i
invariant-loop-i l = TriedSoFar l.fn.rounds l.rounds l.fn.goals l.left.items

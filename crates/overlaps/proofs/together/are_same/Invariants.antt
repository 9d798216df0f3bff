use Rattle.overlaps.proofs.together.are_same.Given as goal

-- nothing has to last from one goal to the next
abbrev pub invariant-loop-i : goal.invariant-loop-i
invariant-loop-i l = Unit {0}

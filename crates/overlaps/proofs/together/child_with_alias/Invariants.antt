use Rattle.overlaps.proofs.together.child_with_alias.Given as goal

-- nothing has to last from one child to the next
abbrev pub invariant-loop-place : goal.invariant-loop-place
invariant-loop-place l = Unit {0}

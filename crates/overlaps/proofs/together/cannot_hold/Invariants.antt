use Rattle.overlaps.proofs.Jointly.{PassedSoFar}
use Rattle.overlaps.proofs.together.cannot_hold.Given as goal

-- the goals at hand are left of the first ones
abbrev pub invariant-loop-pass : goal.invariant-loop-pass
invariant-loop-pass l = PassedSoFar l.fn.rounds l.rounds l.fn.goals.items l.goals.items

use Rattle.overlaps.specs.Refused.{StaysBesideSteps}
use Rattle.overlaps.proofs.specializing.run_left.Given as goal

-- all stays but the table
abbrev pub invariant-loop-i : goal.invariant-loop-i
invariant-loop-i l = StaysBesideSteps l.fn.rounds l.rounds

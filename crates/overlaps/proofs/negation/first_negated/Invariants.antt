use Rattle.overlaps.specs.Refused.{StaysBesideSteps}
use Rattle.overlaps.proofs.negation.first_negated.Given as goal

-- all stays but the table
abbrev pub invariant-loop-number : goal.invariant-loop-number
invariant-loop-number l = StaysBesideSteps l.fn.rounds l.rounds

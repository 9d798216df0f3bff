use Rattle.std.proofs.Common.{◌-◌, length}
use Rattle.candidate_assembly.proofs.Answers.Specializing.{ScannedSoFar}
use Rattle.candidate_assembly.proofs.assembly.specialization.filter_specialized_impls.Given as goal

abbrev pub invariant-loop-number : goal.invariant-loop-number
invariant-loop-number g l =
    ScannedSoFar (g.E.Build.context l.fn.ecx) l.fn.allow (g.E.Build.context l.fn.ecx).trees l.fn.candidates.items l.candidates.items l.number

-- how many are left to see
abbrev pub decreases-loop-number : goal.decreases-loop-number
decreases-loop-number g l = length l.candidates.items - l.number

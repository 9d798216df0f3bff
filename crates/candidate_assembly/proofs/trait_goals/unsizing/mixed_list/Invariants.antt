use Rattle.candidate_assembly.proofs.Unsizing.Mixing.{MixedSoFar}
use Rattle.candidate_assembly.proofs.trait_goals.unsizing.mixed_list.Given as goal

-- the arguments before were taken
abbrev pub invariant-loop-i : goal.invariant-loop-i
invariant-loop-i l = MixedSoFar l.fn.changed l.fn.first l.fn.second l.i l.list.items

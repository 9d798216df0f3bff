use Rattle.std.proofs.Common.{◌≡◌, drop}
use Rattle.std.specs.List.{list_any}
use Rattle.candidate_eval.specs.Outcomes.ResponseTrees.{candidates_of}
use Rattle.candidate_assembly.specs.Answers.Assembled.{shadows}
use Rattle.candidate_assembly.proofs.assembly.assemble.is_shadowed.Given as goal

-- none before shadows anything
abbrev pub invariant-loop-i : goal.invariant-loop-i
invariant-loop-i l =
    list_any shadows (candidates_of l.cx.trees l.candidates) ≡ list_any shadows (candidates_of l.cx.trees (drop l.i l.candidates))

use Rattle.std.proofs.Common.{◌≡◌, drop}
use Rattle.candidate_eval.specs.Outcomes.Merging.{first_applicable}
use Rattle.candidate_eval.specs.Outcomes.ResponseTrees.{candidates_of}
use Rattle.candidate_eval.proofs.eval.response.first_applicable.Given as goal

-- none before is always applicable
abbrev pub invariant-loop-i : goal.invariant-loop-i
invariant-loop-i l =
    first_applicable 0 (candidates_of l.cx.trees l.candidates) ≡ first_applicable l.i (candidates_of l.cx.trees (drop l.i l.candidates))

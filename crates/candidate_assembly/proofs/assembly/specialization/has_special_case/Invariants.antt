use Rattle.std.proofs.Common.{◌≡◌, drop}
use Rattle.std.specs.List.{list_any}
use Rattle.candidate_eval.specs.Outcomes.ResponseTrees.{candidates_of}
use Rattle.candidate_assembly.specs.Answers.Specialization.{drives_out}
use Rattle.candidate_assembly.proofs.assembly.specialization.has_special_case.Given as goal

-- none before drives the impl out
abbrev pub invariant-loop-i : goal.invariant-loop-i
invariant-loop-i l =
    let test = drives_out l.cx l.allow l.of in
    list_any test (candidates_of l.cx.trees l.candidates) ≡ list_any test (candidates_of l.cx.trees (drop l.i l.candidates))

use Rattle.std.proofs.Common.{◌≡◌, take}
use Rattle.std.specs.List.{flat_map}
use Rattle.candidate_eval.proofs.Dynamic.Required.{AddedSoFar}
use Rattle.candidate_eval.proofs.Dynamic.Requiring.{clause_with}
use Rattle.candidate_eval.proofs.objects.required.push_declared.Given as goal

-- the clauses before were added
abbrev pub invariant-loop-clause : goal.invariant-loop-clause
invariant-loop-clause g l =
    let start = g.M.Build.context l.fn.make in
    AddedSoFar start (g.M.Build.context l.make) l.fn.list.items l.list.items (flat_map (clause_with start.trees l.fn.args) (take l.clause-index l.clause-items)) × (g.M.Build.rest l.make ≡ g.M.Build.rest l.fn.make)

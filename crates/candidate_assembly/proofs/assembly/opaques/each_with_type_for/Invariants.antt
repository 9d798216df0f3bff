use Rattle.std.proofs.Common.{◌≡◌, [], take}
use Rattle.std.specs.List.{flat_map}
use Rattle.candidate_eval.proofs.Dynamic.Required.{AddedSoFar}
use Rattle.candidate_assembly.proofs.Opaques.SaidBounds.{one-with-type}
use Rattle.candidate_assembly.proofs.assembly.opaques.each_with_type_for.Given as goal

-- the clauses before were added, with the one type in the place of the other
abbrev pub invariant-loop-clause : goal.invariant-loop-clause
invariant-loop-clause g l =
    let start = g.M.Build.context l.fn.make in
    AddedSoFar start (g.M.Build.context l.make) [] l.list.items (flat_map (one-with-type start.trees l.fn.old l.fn.new) (take l.clause-index l.clauses)) × (g.M.Build.rest l.make ≡ g.M.Build.rest l.fn.make)

use Rattle.std.proofs.Common.{◌≡◌, All, [], take}
use Rattle.std.specs.List.{flat_map}
use Rattle.candidate_eval.proofs.Dynamic.Required.{AddedSoFar}
use Rattle.candidate_assembly.specs.Rules.Opaques.{AreClosedBounds}
use Rattle.candidate_assembly.proofs.Opaques.SaidBounds.{said-of}
use Rattle.candidate_assembly.proofs.assembly.opaques.all_bounds_said.Given as goal

-- what the opaque types before say was added
abbrev pub invariant-loop-opaque : goal.invariant-loop-opaque
invariant-loop-opaque g l =
    let start = g.M.Build.context l.fn.make in
    AddedSoFar start (g.M.Build.context l.make) [] l.clauses.items (flat_map (said-of start l.fn.ty) (take l.opaque-index l.opaques)) × (g.M.Build.rest l.make ≡ g.M.Build.rest l.fn.make) × All (AreClosedBounds start) (take l.opaque-index l.opaques)

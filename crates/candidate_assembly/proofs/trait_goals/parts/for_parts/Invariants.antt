use Rattle.std.proofs.Common.{◌≡◌, [], take}
use Rattle.std.specs.List.{flat_map}
use Rattle.candidate_eval.proofs.Dynamic.Required.{AddedSoFar}
use Rattle.candidate_assembly.proofs.Rules.PartClauses.{said_of_part}
use Rattle.candidate_assembly.proofs.trait_goals.parts.for_parts.Given as goal

-- what was said of the parts before was added
abbrev pub invariant-loop-ty : goal.invariant-loop-ty
invariant-loop-ty g l =
    let start = g.M.Build.context l.fn.make in
    AddedSoFar start (g.M.Build.context l.make) [] l.list.items (flat_map (said_of_part start.trees l.fn.predicate l.fn.under) (take l.ty-index l.types)) × (g.M.Build.rest l.make ≡ g.M.Build.rest l.fn.make)

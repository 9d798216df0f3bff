use Rattle.std.proofs.Common.{◌≡◌, [], take}
use Rattle.std.specs.List.{flat_map}
use Rattle.candidate_eval.proofs.Dynamic.Required.{AddedSoFar, bound_said}
use Rattle.candidate_eval.proofs.objects.required.own_bounds.Given as goal

-- what the bounds before say was added
abbrev pub invariant-loop-bound : goal.invariant-loop-bound
invariant-loop-bound g l =
    let start = g.M.Build.context l.fn.make in
    AddedSoFar start (g.M.Build.context l.make) [] l.list.items (flat_map (bound_said start.trees l.fn.object) (take l.bound-index l.bound-items)) × (g.M.Build.rest l.make ≡ g.M.Build.rest l.fn.make)

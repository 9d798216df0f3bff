use Rattle.std.proofs.Common.{◌≡◌, map, take}
use Rattle.candidate_assembly.proofs.Unsizing.DynRequirements.{RequiredSoFar, said-step}
use Rattle.candidate_assembly.proofs.trait_goals.to_dyn.bound_requirements.Given as goal

-- what the bounds before say was added
abbrev pub invariant-loop-bound : goal.invariant-loop-bound
invariant-loop-bound g l =
    let start = g.M.Build.context l.fn.make in
    RequiredSoFar start (g.M.Build.context l.make) l.requirements.items (map (said-step start.trees l.fn.ty) (take l.bound-index l.bound-items)) × (g.M.Build.rest l.make ≡ g.M.Build.rest l.fn.make)

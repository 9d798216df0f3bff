use Rattle.std.proofs.Common.{◌≡◌}
use Rattle.candidate_eval.proofs.Builtins.Conditions.{ConditionsSoFar}
use Rattle.candidate_eval.proofs.structural.destruct.push_conditions.Given as goal

-- the conditions of the types before were added
abbrev pub invariant-loop-ty : goal.invariant-loop-ty
invariant-loop-ty g l =
    ConditionsSoFar (g.M.Build.context l.fn.make) (g.M.Build.context l.make) l.fn.of l.fn.types l.ty-index l.conditions.items × (g.M.Build.rest l.make ≡ g.M.Build.rest l.fn.make)

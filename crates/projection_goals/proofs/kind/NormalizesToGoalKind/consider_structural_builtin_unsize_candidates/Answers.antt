use Rattle.std.proofs.Common.{refl}
use Rattle.candidate_assembly.specs.Goals.KindBounds.{UnsizingList, no_target}
use Rattle.candidate_assembly.proofs.Unsizing.UnsizedTargets.{nothing-listed}
use Rattle.projection_goals.specs.Normalizing.{normalizes_bounds, normalizes_goal, normalizes_rules}
use Rattle.projection_goals.proofs.kind.NormalizesToGoalKind.consider_structural_builtin_unsize_candidates.Goals as goal

pub returns : goal.returns
returns g c =
    let E = g.E.EvalCtxt in
    let first = c.args._ecx.now in
    let old = g.E.Build.context first in
    nothing-listed (λ f. (g.met.E.EvalCtxt.lawful f).alike_judged_alike) first
    (UnsizingList normalizes_rules normalizes_bounds (E.judge (E.fixed first)) old (E.state first) (normalizes_goal old.trees c.args._env c.args._predicate)) c.new.result c.new.ensures.items (no_target refl)

use Rattle.std.proofs.Common.{◌≡◌}
use Rattle.ir_trees.specs.Syntax.Words.{env_forest}
use Rattle.candidate_eval.specs.Dynamic.Objects.{projection_at}
use Rattle.candidate_eval.specs.Interface.Evaluators.{NoFault}
use Rattle.candidate_eval.proofs.Dynamic.Tries.{TriedSoFar}
use Rattle.candidate_eval.proofs.objects.object.matching_bounds.Given as goal

-- the bounds before were tried; what is fixed, the open probes and the faults are as they were
abbrev pub invariant-loop-bound : goal.invariant-loop-bound
invariant-loop-bound g l =
    let E = g.E.EvalCtxt in
    let start = g.E.Build.context l.fn.ecx in
    TriedSoFar (E.judge (E.fixed l.fn.ecx)) (env_forest start.trees l.fn.env) (projection_at start.trees l.fn.projection) start (g.E.Build.context l.ecx) (E.state l.fn.ecx) (E.state l.ecx) l.fn.bounds l.bound-index l.found.items
    × (E.fixed l.ecx ≡ E.fixed l.fn.ecx) × (E.probes l.ecx ≡ E.probes l.fn.ecx) × NoFault start (g.E.Build.context l.ecx)

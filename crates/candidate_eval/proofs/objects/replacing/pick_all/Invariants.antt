use Rattle.std.proofs.Common.{◌≡◌}
use Rattle.ir_trees.specs.Syntax.Words.{env_forest}
use Rattle.candidate_eval.specs.Dynamic.Replacing.{clauses_at}
use Rattle.candidate_eval.specs.Interface.Evaluators.{NoFault}
use Rattle.candidate_eval.proofs.Dynamic.Picking.{PickedSoFar}
use Rattle.candidate_eval.proofs.objects.replacing.pick_all.Given as goal

-- the projections before have their terms; what is fixed, the open probes and the faults are as they were
abbrev pub invariant-loop-projection : goal.invariant-loop-projection
invariant-loop-projection g l =
    let E = g.E.EvalCtxt in
    let start = g.E.Build.context l.fn.ecx in
    PickedSoFar (E.judge (E.fixed l.fn.ecx)) (env_forest start.trees l.fn.env) (clauses_at start.trees l.fn.bounds) start (g.E.Build.context l.ecx) (E.state l.fn.ecx) (E.state l.ecx) l.fn.projections l.projection-index l.terms.items
    × (E.fixed l.ecx ≡ E.fixed l.fn.ecx) × (E.probes l.ecx ≡ E.probes l.fn.ecx) × NoFault start (g.E.Build.context l.ecx)

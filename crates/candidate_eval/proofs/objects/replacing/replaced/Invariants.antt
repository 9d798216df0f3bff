use Rattle.std.proofs.Common.{◌≡◌}
use Rattle.ir_trees.specs.Syntax.Words.{env_forest, ty_tree}
use Rattle.candidate_eval.specs.Dynamic.Replacing.{clauses_at}
use Rattle.candidate_eval.specs.Interface.Evaluators.{NoFault}
use Rattle.candidate_eval.proofs.Dynamic.Picking.{ReplacedSoFar}
use Rattle.candidate_eval.proofs.objects.replacing.replaced.Given as goal

-- the clauses before are replaced; what is fixed, the open probes and the faults are as they were
abbrev pub invariant-loop-clause : goal.invariant-loop-clause
invariant-loop-clause g l =
    let E = g.E.EvalCtxt in
    let start = g.E.Build.context l.fn.ecx in
    ReplacedSoFar (E.judge (E.fixed l.fn.ecx)) (env_forest start.trees l.fn.env) (ty_tree start.trees l.fn.object) (clauses_at start.trees l.fn.bounds) start (g.E.Build.context l.ecx) (E.state l.fn.ecx) (E.state l.ecx)
    l.fn.clauses l.clause-index l.list.items
    × (E.fixed l.ecx ≡ E.fixed l.fn.ecx) × (E.probes l.ecx ≡ E.probes l.fn.ecx) × NoFault start (g.E.Build.context l.ecx)

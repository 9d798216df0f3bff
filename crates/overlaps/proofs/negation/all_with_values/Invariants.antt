use Rattle.std.proofs.Common.{◌≡◌}
use Rattle.ir_trees.specs.Instantiation.Folding.{substituted_tree}
use Rattle.ir_trees.specs.Syntax.Trees.{Tree}
use Rattle.ir_trees.specs.Syntax.Words.{args_forest}
use Rattle.candidate_eval.specs.Interface.Evaluators.{Keeps}
use Rattle.candidate_eval.specs.Judges.States.{resolved_tree}
use Rattle.overlaps.proofs.Specialized.{PutSoFar}
use Rattle.overlaps.proofs.negation.all_with_values.Given as goal

-- the clauses before were put in with all values, and the state stays
abbrev pub invariant-loop-clause : goal.invariant-loop-clause
invariant-loop-clause g l =
    let E = g.E.EvalCtxt in
    let start = g.E.Build.context l.fn.ecx in
    Keeps E.fixed E.probes g.E.Build.context l.fn.ecx l.ecx × (E.state l.ecx ≡ E.state l.fn.ecx)
    × PutSoFar start (g.E.Build.context l.ecx) (λ (t : Tree). resolved_tree (E.state l.fn.ecx) (substituted_tree (args_forest start.trees l.fn.locals) t)) l.fn.clauses l.list.items l.clause-index

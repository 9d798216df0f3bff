use Rattle.std.proofs.Common.{◌≡◌}
use Rattle.ir_trees.specs.Instantiation.Folding.{substituted_tree}
use Rattle.ir_trees.specs.Syntax.Words.{args_forest}
use Rattle.candidate_eval.specs.Interface.Evaluators.{Keeps}
use Rattle.overlaps.proofs.Specialized.{PutSoFar}
use Rattle.overlaps.proofs.specializing.with_locals.Given as goal

-- the clauses before were put in, and the state stays
abbrev pub invariant-loop-clause : goal.invariant-loop-clause
invariant-loop-clause g l =
    let start = g.E.Build.context l.fn.ecx in
    Keeps g.E.EvalCtxt.fixed g.E.EvalCtxt.probes g.E.Build.context l.fn.ecx l.ecx × (g.E.EvalCtxt.state l.ecx ≡ g.E.EvalCtxt.state l.fn.ecx)
    × PutSoFar start (g.E.Build.context l.ecx) (substituted_tree (args_forest start.trees l.fn.locals)) l.fn.clauses l.list.items l.clause-index

use Rattle.std.proofs.Common.{◌+◌}
use Rattle.ir_trees.specs.Syntax.Words.{env_forest}
use Rattle.candidate_assembly.specs.Calls.Characterizing.{parts_visited}
use Rattle.candidate_assembly.proofs.Rules.PartsVisited.{AreVisited, left_of, left_of_all}
use Rattle.candidate_assembly.proofs.assembly.characterize.visit_parts.Given as goal

abbrev pub invariant-loop-here : goal.invariant-loop-here
invariant-loop-here g l =
    let E = g.E.EvalCtxt in
    let first = l.fn.ecx in
    let ts = (g.E.Build.context first).trees in
    let clauses = env_forest ts l.fn.env in
    AreVisited E.fixed E.probes g.E.Build.context E.state E.stops E.judge clauses first (parts_visited (E.judge (E.fixed first)) clauses ts l.fn.parts (E.state first))
    l.waiting.items l.here l.ecx

abbrev pub decreases-loop-here : goal.decreases-loop-here
decreases-loop-here g l = left_of l.here + left_of_all l.waiting.items

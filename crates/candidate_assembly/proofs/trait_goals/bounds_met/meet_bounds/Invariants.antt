use Rattle.std.proofs.Common.{drop, map}
use Rattle.std.specs.Prelude.{option_map}
use Rattle.ir_trees.specs.Syntax.Words.{clause_tree, env_forest, pred_tree}
use Rattle.candidate_eval.specs.Interface.Evaluators.{Keeps}
use Rattle.candidate_assembly.specs.Calls.Upcasting.{MetUntil}
use Rattle.candidate_assembly.proofs.trait_goals.bounds_met.meet_bounds.Given as goal

-- the bounds before are met
abbrev pub invariant-loop-target : goal.invariant-loop-target
invariant-loop-target g l =
    let E = g.E.EvalCtxt in
    let first = l.fn.ecx in
    let start = g.E.Build.context first in
    Keeps E.fixed E.probes g.E.Build.context first l.ecx
    × MetUntil start (map (clause_tree start.trees) l.fn.supers) (map (pred_tree start.trees) l.fn.sources) (option_map (clause_tree start.trees) l.fn.principal) (E.judge (E.fixed first)) (env_forest start.trees l.fn.env) (E.state first) (E.state l.ecx)
    (map (pred_tree start.trees) l.fn.targets) (map (pred_tree start.trees) (drop l.target-index l.fn.targets))

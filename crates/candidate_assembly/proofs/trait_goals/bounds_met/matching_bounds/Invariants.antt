use Rattle.std.proofs.Common.{◌≡◌, take}
use Rattle.std.specs.List.{filter}
use Rattle.ir_trees.specs.Syntax.Words.{env_forest, pred_tree}
use Rattle.candidate_eval.specs.Interface.Evaluators.{Keeps}
use Rattle.candidate_assembly.specs.Calls.Upcasting.{meets_projection}
use Rattle.candidate_assembly.proofs.trait_goals.bounds_met.matching_bounds.Given as goal

-- the bounds before were tried, at states that are alike the first
abbrev pub invariant-loop-source : goal.invariant-loop-source
invariant-loop-source g l =
    let E = g.E.EvalCtxt in
    let start = g.E.Build.context l.fn.ecx in
    Keeps E.fixed E.probes g.E.Build.context l.fn.ecx l.ecx × (E.judge (E.fixed l.fn.ecx)).alike (E.state l.fn.ecx) (E.state l.ecx)
    × (l.found.items ≡ filter (λ p. meets_projection (E.judge (E.fixed l.fn.ecx)) (env_forest start.trees l.fn.env) (E.state l.fn.ecx) l.fn.item.0 (pred_tree start.trees l.fn.target) (pred_tree start.trees p)) (take l.source-index l.fn.sources))

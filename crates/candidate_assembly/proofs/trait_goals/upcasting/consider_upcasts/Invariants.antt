use Rattle.std.proofs.Common.{◌-◌, map, take}
use Rattle.ir_trees.specs.Syntax.Words.{env_forest}
use Rattle.candidate_assembly.proofs.Lists.Listing.{ListedSoFar}
use Rattle.candidate_assembly.proofs.Upcasting.UpcastRules.{proper, rule-by}
use Rattle.candidate_assembly.proofs.trait_goals.upcasting.consider_upcasts.Given as goal

-- the candidates by the supertraits before were listed
abbrev pub invariant-loop-number : goal.invariant-loop-number
invariant-loop-number g l =
    let E = g.E.EvalCtxt in
    let old = g.E.Build.context l.fn.ecx in
    ListedSoFar E.fixed E.judge E.state E.probes g.E.Build.context l.fn.ecx l.ecx l.fn.candidates.items l.candidates.items
    (map (rule-by old (env_forest old.trees l.fn.env) l.fn.upcast) (take (l.number - 1) (proper l.fn.upcast.supers.items)))

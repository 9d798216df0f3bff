use Rattle.std.proofs.Common.{◌≡◌}
use Rattle.candidate_eval.specs.Interface.Evaluators.{Keeps}
use Rattle.candidate_assembly.proofs.trait_goals.preference.ignore_failed.Given as goal

-- those before were forgotten, and nothing else changed
abbrev pub invariant-loop-usages : goal.invariant-loop-usages
invariant-loop-usages g l =
    let E = g.E.EvalCtxt in
    Keeps E.fixed E.probes g.E.Build.context l.fn.ecx l.ecx × (E.state l.ecx ≡ E.state l.fn.ecx)

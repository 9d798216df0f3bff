use Rattle.std.proofs.Common.{◌≡◌}
use Rattle.candidate_eval.specs.Interface.Evaluators.{Keeps}
use Rattle.candidate_assembly.proofs.trait_goals.preference.ignore_others.Given as goal

-- those before were forgotten, and nothing else changed
abbrev pub invariant-loop-number : goal.invariant-loop-number
invariant-loop-number g l =
    let E = g.E.EvalCtxt in
    Keeps E.fixed E.probes g.E.Build.context l.fn.ecx l.ecx × (E.state l.ecx ≡ E.state l.fn.ecx)

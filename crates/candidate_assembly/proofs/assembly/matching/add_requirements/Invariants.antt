use Rattle.std.proofs.Common.{◌≡◌, take}
use Rattle.candidate_eval.specs.Interface.Evaluators.{Keeps}
use Rattle.candidate_assembly.specs.Rules.Requirements.{with_requirements}
use Rattle.candidate_assembly.proofs.assembly.matching.add_requirements.Given as goal

-- those before are pending
abbrev pub invariant-loop-requirement : goal.invariant-loop-requirement
invariant-loop-requirement g l =
    let E = g.E.EvalCtxt in
    let first = l.fn.ecx in
    Keeps E.fixed E.probes g.E.Build.context first l.ecx × (E.state l.ecx ≡ with_requirements (g.E.Build.context first).trees l.fn.env (E.state first) (take l.requirement-index l.fn.requirements))

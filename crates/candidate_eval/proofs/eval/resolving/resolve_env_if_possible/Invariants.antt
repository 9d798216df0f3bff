use Rattle.std.proofs.Common.{◌≡◌, [], take}
use Rattle.std.specs.List.{flat_map}
use Rattle.candidate_eval.specs.Interface.Evaluators.{Keeps}
use Rattle.candidate_eval.proofs.Dynamic.Required.{AddedSoFar}
use Rattle.candidate_eval.proofs.Interface.Resolving.{resolved_one}
use Rattle.candidate_eval.proofs.eval.resolving.resolve_env_if_possible.Given as goal

-- the clauses before were resolved
abbrev pub invariant-loop-clause : goal.invariant-loop-clause
invariant-loop-clause g l =
    let E = g.E.EvalCtxt in
    let start = g.E.Build.context l.fn.ecx in
    AddedSoFar start (g.E.Build.context l.ecx) [] l.list.items (flat_map (resolved_one (E.state l.fn.ecx) start.trees) (take l.clause-index l.clause-items))
    × Keeps E.fixed E.probes g.E.Build.context l.fn.ecx l.ecx × (E.state l.ecx ≡ E.state l.fn.ecx)

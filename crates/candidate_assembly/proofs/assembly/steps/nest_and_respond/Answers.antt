use Rattle.std.proofs.lemmas.Result.{err_from_is_err_and}
use Rattle.candidate_eval.proofs.Interface.Accounts.{reaches}
use Rattle.candidate_eval.proofs.Dynamic.ObjectCandidates.{goals-fit}
use Rattle.candidate_assembly.proofs.Calls.Causes.{asked-here, caused, later, memory-here}
use Rattle.candidate_assembly.proofs.assembly.steps.nest_and_respond.Goals as goal

pub returns-in_err-nested-clause-cause : goal.returns-in_err-nested-clause-cause
returns-in_err-nested-clause-cause g c =
    let p = err_from_is_err_and c.from_residual.result c.from_residual.ensures.1 in
    rw (p.1, p.2) (memory-here c.in_err-nested.ensures.cause)

pub add_goals-requires : goal.add_goals-requires
add_goals-requires g c =
    rw (c.as_slice.ensures.value, c.in_ok-nested.ensures.are) (goals-fit (g.E.Build.context c.args.ecx.now).trees c.args.env c.args.nested.now c.requires.env c.requires.nested)

pub returns-in_err-add_goals-clause-cause : goal.returns-in_err-add_goals-clause-cause
returns-in_err-add_goals-clause-cause g c =
    let p = err_from_is_err_and c.from_residual-in_err-add_goals.result c.from_residual-in_err-add_goals.ensures.1 in
    rw (p.1, p.2) (asked-here _ c.add_goals.ensures.kept c.in_err-add_goals.ensures.cause)

pub returns-clause-cause : goal.returns-clause-cause
returns-clause-cause g c = caused c.respond_as.result (λ s. later (reaches c.add_goals.ensures.kept)) c.respond_as.ensures.cause

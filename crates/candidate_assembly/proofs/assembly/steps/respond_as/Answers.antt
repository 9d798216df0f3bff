use Rattle.std.proofs.lemmas.Result.{err_from_is_err_and}
use Rattle.candidate_eval.proofs.Interface.Accounts.{accounted-here, by-stop, reaches}
use Rattle.candidate_eval.specs.Interface.Accounts.StopsSomehow.{asking}
use Rattle.candidate_assembly.proofs.assembly.steps.respond_as.Goals as goal

pub returns-in_err-result-clause-cause : goal.returns-in_err-result-clause-cause
returns-in_err-result-clause-cause g c =
    let p = err_from_is_err_and c.from_residual.result c.from_residual.ensures.1 in
    rw (p.1, p.2)
    (by-stop c.in_err-result.field-0.0 (λ s x. λ own. asking (accounted-here _ (reaches c.evaluate_added_goals_and_make_canonical_response.ensures.kept) x)) c.in_err-result.ensures.cause)

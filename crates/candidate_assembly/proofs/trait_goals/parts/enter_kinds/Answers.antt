use Rattle.std.proofs.lemmas.Result.{err_from_is_err_and}
use Rattle.candidate_eval.specs.Interface.Accounts.StopsSomehow.{asking}
use Rattle.candidate_eval.proofs.Interface.Accounts.{accounted-here, reaches}
use Rattle.candidate_assembly.proofs.trait_goals.parts.enter_kinds.Goals as goal

pub returns-in_err-placeholder_args-clause-cause : goal.returns-in_err-placeholder_args-clause-cause
returns-in_err-placeholder_args-clause-cause g c =
    let p = err_from_is_err_and c.from_residual.result c.from_residual.ensures.1 in
    rw (p.1, p.2) (asking (accounted-here _ (reaches c.placeholder_args.ensures.kept) c.in_err-placeholder_args.ensures.cause))

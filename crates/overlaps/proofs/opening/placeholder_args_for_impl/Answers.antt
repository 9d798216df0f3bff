use Rattle.std.proofs.lemmas.Result.{IfErr-weaker, err_from_is_err_and}
use Rattle.candidate_eval.specs.Interface.Accounts.StopsSomehow.{asking}
use Rattle.candidate_eval.proofs.Interface.Accounts.{accounted-here, memory-somehow, reaches}
use Rattle.overlaps.proofs.opening.placeholder_args_for_impl.Goals as goal

pub returns-in_err-kinds-clause-cause : goal.returns-in_err-kinds-clause-cause
returns-in_err-kinds-clause-cause g c =
    let p = err_from_is_err_and c.from_residual.result c.from_residual.ensures.1 in
    rw p.1 (memory-somehow p.2)

pub returns-clause-cause : goal.returns-clause-cause
returns-clause-cause g c = IfErr-weaker c.placeholder_args.result _ _ (λ s x. asking (accounted-here _ (reaches c.placeholder_args.ensures.kept) x)) c.placeholder_args.ensures.cause

use Rattle.candidate_eval.proofs.Interface.Probing.{keeps-trans}
use Rattle.std.proofs.lemmas.Result.{err_from_is_err_and}
use Rattle.candidate_eval.proofs.Interface.Accounts.{accounted-here, accounted-later, by-stop, reaches}
use Rattle.candidate_eval.specs.Interface.Accounts.StopsBy.{accounted}
use Rattle.candidate_eval.proofs.objects.object.equate_and_evaluate.Goals as goal

pub returns-in_err-_certainty-clause-kept : goal.returns-in_err-_certainty-clause-kept
returns-in_err-_certainty-clause-kept g c =
    let E = g.E.EvalCtxt in
    keeps-trans E.fixed E.probes g.E.Build.context c.args.ecx.now c.equate_bound.new.ecx c.try_evaluate_added_goals.new.self c.equate_bound.ensures.kept c.try_evaluate_added_goals.ensures.kept

pub returns-clause-kept : goal.returns-clause-kept
returns-clause-kept g c =
    let E = g.E.EvalCtxt in
    keeps-trans E.fixed E.probes g.E.Build.context c.args.ecx.now c.equate_bound.new.ecx c.try_evaluate_added_goals.new.self c.equate_bound.ensures.kept c.try_evaluate_added_goals.ensures.kept

pub returns-in_err-_certainty-clause-cause : goal.returns-in_err-_certainty-clause-cause
returns-in_err-_certainty-clause-cause g c =
    let p = err_from_is_err_and c.from_residual-in_err-_certainty.result c.from_residual-in_err-_certainty.ensures.1 in
    rw (p.1, p.2)
    (by-stop c.in_err-_certainty.field-0.0 (λ s x. accounted (accounted-later (reaches c.equate_bound.ensures.kept) (accounted-here _ (reaches c.try_evaluate_added_goals.ensures.kept) x))) c.in_err-_certainty.ensures.cause)

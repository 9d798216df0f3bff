use Rattle.std.proofs.Common.{◌≡◌, ap, ◌∙◌, sym, Some, None, IfOk, IfErr}
use Rattle.std.proofs.lemmas.Result.{err_from_is_err_and}
use Rattle.candidate_eval.specs.declared.eval.certainty.Certainty.TheVariants.{Yes}
use Rattle.candidate_eval.specs.declared.eval.refusal.NoSolutionOrStop.TheVariants.{NoSolution}
use Rattle.candidate_eval.specs.Interface.Accounts.StopsSomehow.{asking}
use Rattle.candidate_eval.specs.Judges.States.{next}
use Rattle.candidate_eval.specs.Outcomes.ResponseTrees.{response_of}
use Rattle.candidate_eval.proofs.Interface.Accounts.{accounted-here, accounted-later, by-stop, reaches}
use Rattle.candidate_eval.proofs.Interface.Probing.{then}
use Rattle.candidate_assembly.proofs.Calls.Causes.{caused, so-ok, so-err}
use Rattle.projection_goals.proofs.proving.respond_equal.Goals as goal

pub returns-in_err-eq-clause-refused : goal.returns-in_err-eq-clause-refused
returns-in_err-eq-clause-refused g c =
    let E = g.E.EvalCtxt in
    let J = E.judge (E.fixed c.args.ecx.now) in
    let p = err_from_is_err_and c.from_residual.result c.from_residual.ensures.1 in
    rw p.1 (λ n. ap (λ o. next o (λ T. J.responded T Yes)) (c.in_err-eq.ensures.refused (sym p.2 ∙ n)))

pub returns-in_err-eq-clause-cause : goal.returns-in_err-eq-clause-cause
returns-in_err-eq-clause-cause g c =
    let p = err_from_is_err_and c.from_residual.result c.from_residual.ensures.1 in
    rw (p.1, p.2) (by-stop c.in_err-eq.field-0.0 (λ s x. asking (accounted-here _ (reaches c.eq.ensures.kept) x)) c.in_err-eq.ensures.cause)

pub returns-clause-kept : goal.returns-clause-kept
returns-clause-kept g c = then c.eq.ensures.kept c.evaluate_added_goals_and_make_canonical_response.ensures.kept

pub returns-clause-ok : goal.returns-clause-ok
returns-clause-ok g c =
    let E = g.E.EvalCtxt in
    let J = E.judge (E.fixed c.args.ecx.now) in
    let asked = c.evaluate_added_goals_and_make_canonical_response in
    let T = E.state c.eq.new.self in
    let ok : IfOk asked.result (λ r. J.responded T Yes ≡ Some (response_of (g.E.Build.context asked.new.self).trees r)) = rw c.eq.ensures.kept.fixed_same at asked.ensures.ok in
    so-ok asked.result (λ r h. ap (λ o. next o (λ U. J.responded U Yes)) c.in_ok-eq.ensures.ok ∙ h) ok

pub returns-clause-refused : goal.returns-clause-refused
returns-clause-refused g c =
    let E = g.E.EvalCtxt in
    let J = E.judge (E.fixed c.args.ecx.now) in
    let asked = c.evaluate_added_goals_and_make_canonical_response in
    let T = E.state c.eq.new.self in
    let refused : IfErr asked.result (λ e. e ≡ NoSolution → J.responded T Yes ≡ None) = rw c.eq.ensures.kept.fixed_same at asked.ensures.refused in
    so-err asked.result (λ e h n. ap (λ o. next o (λ U. J.responded U Yes)) c.in_ok-eq.ensures.ok ∙ h n) refused

pub returns-clause-cause : goal.returns-clause-cause
returns-clause-cause g c =
    let asked = c.evaluate_added_goals_and_make_canonical_response in
    caused asked.result (λ s x. asking (accounted-later (reaches c.eq.ensures.kept) (accounted-here _ (reaches asked.ensures.kept) x))) asked.ensures.cause

use Rattle.std.proofs.Common.{ap, ◌∙◌}
use Rattle.candidate_rounds.specs.Evaluators.Known.{Evaluator, reads, state}
use Rattle.candidate_rounds.proofs.Evaluators.Going.{goes-same, goes-trans}
use Rattle.candidate_rounds.proofs.Obligations.Trying.{resolved-again, taken-back}
use Rattle.candidate_rounds.proofs.Evaluators.Going.{goes-reads}
use Rattle.candidate_rounds.proofs.Stops.SettlingStops.{response-stop}
use Rattle.candidate_rounds.proofs.Evaluators.Between.{parts}
use Rattle.candidate_rounds.proofs.Evaluators.Exits.{few-back, marks-back}
use Rattle.candidate_rounds.proofs.Evaluators.Interface.{keeps-going}
use Rattle.std.proofs.Common.{length}
use Rattle.std.proofs.lemmas.Result.{err_from_is_err_and}
use Rattle.candidate_rounds.proofs.Stops.Accounting.{read-error}
use Rattle.candidate_rounds.specs.Evaluators.Stopping.{IsPureFolderStop, held}
use Rattle.candidate_rounds.specs.Evaluators.Stopping.IsPureFolderStop.{of_settling}
use Rattle.candidate_eval.proofs.Interface.Accounts.{by-stop}
use Rattle.candidate_eval.specs.declared.eval.refusal.NoSolutionOrStop.TheVariants as NoSolutionOrStop
use Rattle.candidate_rounds.proofs.rounds.evaluator.RoundsEvalCtxt.evaluate_added_goals_and_make_canonical_response.Goals as goal

pub undo_to-requires-clause-resolved : goal.undo_to-requires-clause-resolved
undo_to-requires-clause-resolved c =
    let old = c.args.self.now in
    let new = c.make_canonical_response.new.self in
    let kept = parts c.recall_well_kept.ensures in
    resolved-again old new c.changes-changes.result (c.changes-changes.ensures ∙ ap (λ (e : Evaluator). length e.inference.trail) c.self.view_is) (goes-trans old c.try_evaluate_added_goals.new.self new c.try_evaluate_added_goals.ensures.goes c.make_canonical_response.ensures.goes)
    kept.consistent.known kept.resolved.now

pub returns-in-Ok-clause-goes : goal.returns-in-Ok-clause-goes
returns-in-Ok-clause-goes c =
    goes-trans c.args.self.now c.try_evaluate_added_goals.new.self c.make_canonical_response.new.self c.try_evaluate_added_goals.ensures.goes c.make_canonical_response.ensures.goes

pub returns-in-Err-clause-undone : goal.returns-in-Err-clause-undone
returns-in-Err-clause-undone c =
    let old = c.args.self.now in
    let new = c.make_canonical_response.new.self in
    let goes = goes-trans old c.try_evaluate_added_goals.new.self new c.try_evaluate_added_goals.ensures.goes c.make_canonical_response.ensures.goes in
    let t = taken-back old new c.undo_to.new.self c.changes-changes.result (c.changes-changes.ensures ∙ ap (λ (e : Evaluator). length e.inference.trail) c.self.view_is) goes c.undo_to.ensures in
    goes-same old c.undo_to.new.self t.0 t.1 (parts c.recall_well_kept.ensures).consistent.known

pub undo_to-requires-clause-few : goal.undo_to-requires-clause-few
undo_to-requires-clause-few c = few-back c.args.self.now c.make_canonical_response.new.self c.changes-changes.result (c.changes-changes.ensures ∙ ap (λ (e : Evaluator). length e.inference.trail) c.self.view_is) (goes-trans c.args.self.now c.try_evaluate_added_goals.new.self c.make_canonical_response.new.self c.try_evaluate_added_goals.ensures.goes c.make_canonical_response.ensures.goes)

pub returns-in-Err-clause-goes : goal.returns-in-Err-clause-goes
returns-in-Err-clause-goes c = (taken-back c.args.self.now c.make_canonical_response.new.self c.undo_to.new.self c.changes-changes.result (c.changes-changes.ensures ∙ ap (λ (e : Evaluator). length e.inference.trail) c.self.view_is) (goes-trans c.args.self.now c.try_evaluate_added_goals.new.self c.make_canonical_response.new.self c.try_evaluate_added_goals.ensures.goes c.make_canonical_response.ensures.goes) c.undo_to.ensures).0

pub returns-in-Ok-clause-kept : goal.returns-in-Ok-clause-kept
returns-in-Ok-clause-kept c = keeps-going c.args.self.now c.make_canonical_response.new.self (goes-trans c.args.self.now c.try_evaluate_added_goals.new.self c.make_canonical_response.new.self c.try_evaluate_added_goals.ensures.goes c.make_canonical_response.ensures.goes) c.recall_well_kept.ensures

pub returns-in-Err-clause-kept : goal.returns-in-Err-clause-kept
returns-in-Err-clause-kept c = keeps-going c.args.self.now c.undo_to.new.self (taken-back c.args.self.now c.make_canonical_response.new.self c.undo_to.new.self c.changes-changes.result (c.changes-changes.ensures ∙ ap (λ (e : Evaluator). length e.inference.trail) c.self.view_is) (goes-trans c.args.self.now c.try_evaluate_added_goals.new.self c.make_canonical_response.new.self c.try_evaluate_added_goals.ensures.goes c.make_canonical_response.ensures.goes) c.undo_to.ensures).0 c.recall_well_kept.ensures

pub undo_to-requires-clause-probes : goal.undo_to-requires-clause-probes
undo_to-requires-clause-probes c = marks-back c.args.self.now c.make_canonical_response.new.self c.changes-changes.result (c.changes-changes.ensures ∙ ap (λ (e : Evaluator). length e.inference.trail) c.self.view_is) (goes-trans c.args.self.now c.try_evaluate_added_goals.new.self c.make_canonical_response.new.self c.try_evaluate_added_goals.ensures.goes c.make_canonical_response.ensures.goes) (parts c.recall_well_kept.ensures).consistent.marks

pub returns-in-Err-clause-stopped : goal.returns-in-Err-clause-stopped
returns-in-Err-clause-stopped c =
    let old = c.args.self.now in
    let new = c.make_canonical_response.new.self in
    let goes = goes-trans old c.try_evaluate_added_goals.new.self new c.try_evaluate_added_goals.ensures.goes c.make_canonical_response.ensures.goes in
    let t = taken-back old new c.undo_to.new.self c.changes-changes.result (c.changes-changes.ensures ∙ ap (λ (e : Evaluator). length e.inference.trail) c.self.view_is) goes c.undo_to.ensures in
    λ n. goes-same old c.undo_to.new.self t.0 t.1 (parts c.recall_well_kept.ensures).consistent.known

pub returns-in-Err-clause-cause : goal.returns-in-Err-clause-cause
returns-in-Err-clause-cause c =
    let old = c.args.self.now in
    let mid = c.try_evaluate_added_goals.new.self in
    let new = c.undo_to.new.self in
    let goes = goes-trans old mid c.make_canonical_response.new.self c.try_evaluate_added_goals.ensures.goes c.make_canonical_response.ensures.goes in
    let t = taken-back old c.make_canonical_response.new.self new c.changes-changes.result (c.changes-changes.ensures ∙ ap (λ (e : Evaluator). length e.inference.trail) c.self.view_is) goes c.undo_to.ensures in
    read-error (λ q s. IsPureFolderStop (held new) q (state old) s) (reads old) (reads new) (goes-reads old new t.0 c.recall_well_kept.ensures) (NoSolutionOrStop.Stop c.in-Err.stop)
    (response-stop c.make_canonical_response.new.self.context.trees (held new) (reads old) (state old) (state mid) c.in_ok-settled.settled c.in-Err.stop c.in_ok-settled.ensures.listed
    (ap (λ (e : Evaluator). e.context.trees) c.undo_to.ensures) c.in-Err.ensures.cause)

pub returns-in_err-settled-clause-cause : goal.returns-in_err-settled-clause-cause
returns-in_err-settled-clause-cause c =
    let p = err_from_is_err_and c.from_residual.result c.from_residual.ensures.1 in
    rw (p.1, p.2) (by-stop c.in_err-settled.field-0.0 (λ s k. of_settling k) c.in_err-settled.ensures.cause)

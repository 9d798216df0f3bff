use Rattle.candidate_rounds.proofs.Evaluators.Going.{goes-same}
use Rattle.candidate_rounds.proofs.Obligations.Trying.{resolved-again, taken-back}
use Rattle.candidate_rounds.proofs.Evaluators.Going.{goes-reads}
use Rattle.candidate_rounds.proofs.Evaluators.Following.{settling-follows}
use Rattle.candidate_rounds.proofs.Evaluators.Between.{parts}
use Rattle.candidate_rounds.proofs.Evaluators.Exits.{few-back, marks-back}
use Rattle.candidate_rounds.proofs.Evaluators.Interface.{keeps-going}
use Rattle.std.proofs.Common.{Option, Some, ◌∙◌, ap, sym, subst}
use Rattle.rounds_judge.specs.Table.TableSettling.{settled_with}
use Rattle.rounds_judge.proofs.Aliases.WellListed.{all-listed}
use Rattle.candidate_rounds.specs.Evaluators.Known.{listing, reading, reads, state}
use Rattle.candidate_eval.specs.Judges.States.{State, next}
use Rattle.rounds_judge.specs.Obligations.Settling.{certainty_of}
use Rattle.candidate_rounds.specs.Evaluators.Known.{Evaluator}
use Rattle.std.proofs.Common.{length}
use Rattle.candidate_rounds.proofs.Stops.Accounting.{read-error}
use Rattle.candidate_rounds.specs.Evaluators.Stopping.{Held, IsSettlingStop, held}
use Rattle.candidate_rounds.proofs.rounds.evaluator.RoundsEvalCtxt.try_evaluate_added_goals.Goals as goal

pub undo_to-requires-clause-resolved : goal.undo_to-requires-clause-resolved
undo_to-requires-clause-resolved c =
    let kept = parts c.recall_well_kept.ensures in
    resolved-again c.args.self.now c.settle.new.self c.changes-changes.result (c.changes-changes.ensures ∙ ap (λ (e : Evaluator). length e.inference.trail) c.self.view_is) c.settle.ensures.goes kept.consistent.known kept.resolved.now

pub returns-in-Err-clause-undone : goal.returns-in-Err-clause-undone
returns-in-Err-clause-undone c =
    let t = taken-back c.args.self.now c.settle.new.self c.undo_to.new.self c.changes-changes.result (c.changes-changes.ensures ∙ ap (λ (e : Evaluator). length e.inference.trail) c.self.view_is) c.settle.ensures.goes c.undo_to.ensures in
    goes-same c.args.self.now c.undo_to.new.self t.0 t.1 (parts c.recall_well_kept.ensures).consistent.known

pub undo_to-requires-clause-few : goal.undo_to-requires-clause-few
undo_to-requires-clause-few c = few-back c.args.self.now c.settle.new.self c.changes-changes.result (c.changes-changes.ensures ∙ ap (λ (e : Evaluator). length e.inference.trail) c.self.view_is) c.settle.ensures.goes

pub returns-in-Ok-clause-kept : goal.returns-in-Ok-clause-kept
returns-in-Ok-clause-kept c = keeps-going c.args.self.now c.settle.new.self c.settle.ensures.goes c.recall_well_kept.ensures

pub returns-in-Err-clause-goes : goal.returns-in-Err-clause-goes
returns-in-Err-clause-goes c = (taken-back c.args.self.now c.settle.new.self c.undo_to.new.self c.changes-changes.result (c.changes-changes.ensures ∙ ap (λ (e : Evaluator). length e.inference.trail) c.self.view_is) c.settle.ensures.goes c.undo_to.ensures).0

pub returns-in-Err-clause-kept : goal.returns-in-Err-clause-kept
returns-in-Err-clause-kept c = keeps-going c.args.self.now c.undo_to.new.self (taken-back c.args.self.now c.settle.new.self c.undo_to.new.self c.changes-changes.result (c.changes-changes.ensures ∙ ap (λ (e : Evaluator). length e.inference.trail) c.self.view_is) c.settle.ensures.goes c.undo_to.ensures).0 c.recall_well_kept.ensures

pub undo_to-requires-clause-probes : goal.undo_to-requires-clause-probes
undo_to-requires-clause-probes c = marks-back c.args.self.now c.settle.new.self c.changes-changes.result (c.changes-changes.ensures ∙ ap (λ (e : Evaluator). length e.inference.trail) c.self.view_is) c.settle.ensures.goes (parts c.recall_well_kept.ensures).consistent.marks

pub returns-in-Ok-clause-ok : goal.returns-in-Ok-clause-ok
returns-in-Ok-clause-ok c =
    let old = c.args.self.now in
    ap (λ l. settled_with (reading old) l (state old)) (all-listed (listing old) (parts c.recall_well_kept.ensures).given.listing)
    ∙ (ap (λ (o : Option State). next o (λ T. Some (certainty_of T.pending, T))) c.in-Ok.ensures.ok ∙ ap (λ x. Some (x, state c.settle.new.self)) (sym c.certainty.ensures))

pub returns-in-Err-clause-refused : goal.returns-in-Err-clause-refused
returns-in-Err-clause-refused c =
    let old = c.args.self.now in
    λ n. ap (λ l. settled_with (reading old) l (state old)) (all-listed (listing old) (parts c.recall_well_kept.ensures).given.listing) ∙ ap (λ (o : Option State). next o (λ T. Some (certainty_of T.pending, T))) (c.in-Err.ensures.refused n)

pub returns-in-Err-clause-stopped : goal.returns-in-Err-clause-stopped
returns-in-Err-clause-stopped c =
    let t = taken-back c.args.self.now c.settle.new.self c.undo_to.new.self c.changes-changes.result (c.changes-changes.ensures ∙ ap (λ (e : Evaluator). length e.inference.trail) c.self.view_is) c.settle.ensures.goes c.undo_to.ensures in
    λ n. goes-same c.args.self.now c.undo_to.new.self t.0 t.1 (parts c.recall_well_kept.ensures).consistent.known

pub returns-in-Err-clause-cause : goal.returns-in-Err-clause-cause
returns-in-Err-clause-cause c =
    let old = c.args.self.now in
    let new = c.undo_to.new.self in
    let t = taken-back old c.settle.new.self new c.changes-changes.result (c.changes-changes.ensures ∙ ap (λ (e : Evaluator). length e.inference.trail) c.self.view_is) c.settle.ensures.goes c.undo_to.ensures in
    read-error (λ q s. IsSettlingStop (held new) q (state old) s) (reads old) (reads new) (goes-reads old new t.0 c.recall_well_kept.ensures) c.in-Err.refusal
    (λ s k. subst (λ (x : Held). IsSettlingStop x (reads old) (state old) s) (sym (ap held c.undo_to.ensures)) (c.in-Err.ensures.cause s k))

pub returns-in-Ok-clause-follows : goal.returns-in-Ok-clause-follows
returns-in-Ok-clause-follows c =
    let old = c.args.self.now in
    settling-follows old c.certainty.result (state c.settle.new.self) (returns-in-Ok-clause-ok c)

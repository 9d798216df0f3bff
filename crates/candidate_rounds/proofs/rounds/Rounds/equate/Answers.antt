use Rattle.std.proofs.Common.{◌≡◌, sym, ◌∙◌, ap, subst}
use Rattle.ir_trees.proofs.Traversal.Asking.{arg-below}
use Rattle.candidate_rounds.specs.Evaluators.Inferences.{back_to}
use Rattle.candidate_rounds.specs.Evaluators.Known.{HasResolvedValues}
use Rattle.candidate_rounds.proofs.Evaluators.Going.{goes-back}
use Rattle.candidate_rounds.proofs.Snapshots.ResolvedValues.{resolved-with}
use Rattle.candidate_rounds.proofs.Evaluators.Between.{parts}
use Rattle.candidate_rounds.proofs.Evaluators.Exits.{few-back, marks-back}
use Rattle.candidate_rounds.proofs.Obligations.Trying.{on-err, taken-back}
use Rattle.candidate_rounds.specs.Evaluators.Known.{Evaluator}
use Rattle.std.proofs.Common.{length}
use Rattle.candidate_rounds.proofs.rounds.Rounds.equate.Goals as goal

pub equate_numbers-result-requires-clause-left : goal.equate_numbers-result-requires-clause-left
equate_numbers-result-requires-clause-left c = rw c.number.ensures (arg-below c.args.self.now.context.trees c.args.a c.requires.left)

pub equate_numbers-result-requires-clause-right : goal.equate_numbers-result-requires-clause-right
equate_numbers-result-requires-clause-right c = rw c.number-2.ensures (arg-below c.args.self.now.context.trees c.args.b c.requires.right)

pub undo_to-requires-clause-resolved : goal.undo_to-requires-clause-resolved
undo_to-requires-clause-resolved c =
    let old = c.args.self.now in
    let new = c.equate_numbers-result.new.self in
    let goes = c.equate_numbers-result.ensures.goes in
    let kept = parts c.recall_well_kept.ensures in
    let back : back_to c.changes-changes.result new.inference ≡ old.inference = ap (λ n. back_to n new.inference) (c.changes-changes.ensures ∙ ap (λ (e : Evaluator). length e.inference.trail) c.self.view_is) ∙ goes-back old new goes in
    subst (HasResolvedValues new.context.trees) (sym back) (resolved-with old.context.trees new.context.trees old.inference goes.0.kept kept.consistent.known kept.resolved.now)

pub undo_to-requires-clause-few : goal.undo_to-requires-clause-few
undo_to-requires-clause-few c = few-back c.args.self.now c.equate_numbers-result.new.self c.changes-changes.result (c.changes-changes.ensures ∙ ap (λ (e : Evaluator). length e.inference.trail) c.self.view_is) c.equate_numbers-result.ensures.goes

pub undo_to-requires-clause-probes : goal.undo_to-requires-clause-probes
undo_to-requires-clause-probes c = marks-back c.args.self.now c.equate_numbers-result.new.self c.changes-changes.result (c.changes-changes.ensures ∙ ap (λ (e : Evaluator). length e.inference.trail) c.self.view_is) c.equate_numbers-result.ensures.goes (parts c.recall_well_kept.ensures).consistent.marks

pub returns-then-is_err-clause-goes : goal.returns-then-is_err-clause-goes
returns-then-is_err-clause-goes c = (taken-back c.args.self.now c.equate_numbers-result.new.self c.undo_to.new.self c.changes-changes.result (c.changes-changes.ensures ∙ ap (λ (e : Evaluator). length e.inference.trail) c.self.view_is) c.equate_numbers-result.ensures.goes c.undo_to.ensures).0

pub returns-then-is_err-clause-undone : goal.returns-then-is_err-clause-undone
returns-then-is_err-clause-undone c =
    on-err c.equate_numbers-result.result
    (taken-back c.args.self.now c.equate_numbers-result.new.self c.undo_to.new.self c.changes-changes.result (c.changes-changes.ensures ∙ ap (λ (e : Evaluator). length e.inference.trail) c.self.view_is) c.equate_numbers-result.ensures.goes c.undo_to.ensures).1

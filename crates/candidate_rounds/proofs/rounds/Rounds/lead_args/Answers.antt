use Rattle.std.proofs.Common.{ap, length, sym, subst, ◌∙◌}
use Rattle.ir_trees.specs.Syntax.Words.{args_forest, env_forest}
use Rattle.candidate_eval.specs.Interface.Evaluators.{pendings_of, with_left}
use Rattle.candidate_eval.specs.Judges.States.{State}
use Rattle.candidate_rounds.specs.Evaluators.Following.{FollowsEquation}
use Rattle.candidate_rounds.specs.Evaluators.Known.{Evaluator, listing, state}
use Rattle.candidate_rounds.specs.Evaluators.Stopping.{IsOpeningStop, as_it_is, not_begun}
use Rattle.candidate_rounds.proofs.Evaluators.Between.{parts}
use Rattle.candidate_rounds.proofs.Evaluators.Exits.{few-back, marks-back}
use Rattle.candidate_rounds.proofs.Evaluators.Following.{equation-follows}
use Rattle.candidate_rounds.proofs.Evaluators.Going.{goes-trans}
use Rattle.candidate_rounds.proofs.Obligations.Trying.{resolved-again, taken-back}
use Rattle.candidate_rounds.proofs.Stops.SettlingStops.{stop-said}
use Rattle.candidate_rounds.proofs.rounds.Rounds.lead_args.Goals as goal

pub undo_to-requires-clause-few : goal.undo_to-requires-clause-few
undo_to-requires-clause-few c = few-back c.args.self.now c.leave.new.self c.changes-changes.result (c.changes-changes.ensures ∙ ap (λ (e : Evaluator). length e.inference.trail) c.self.view_is) (goes-trans c.args.self.now c.equation_of_args.new.self c.leave.new.self c.equation_of_args.ensures.goes c.leave.ensures.goes)

pub undo_to-requires-clause-probes : goal.undo_to-requires-clause-probes
undo_to-requires-clause-probes c = marks-back c.args.self.now c.leave.new.self c.changes-changes.result (c.changes-changes.ensures ∙ ap (λ (e : Evaluator). length e.inference.trail) c.self.view_is) (goes-trans c.args.self.now c.equation_of_args.new.self c.leave.new.self c.equation_of_args.ensures.goes c.leave.ensures.goes) (parts c.recall_well_kept.ensures).consistent.marks

pub undo_to-requires-clause-resolved : goal.undo_to-requires-clause-resolved
undo_to-requires-clause-resolved c =
    let kept = parts c.recall_well_kept.ensures in
    resolved-again c.args.self.now c.leave.new.self c.changes-changes.result (c.changes-changes.ensures ∙ ap (λ (e : Evaluator). length e.inference.trail) c.self.view_is) (goes-trans c.args.self.now c.equation_of_args.new.self c.leave.new.self c.equation_of_args.ensures.goes c.leave.ensures.goes) kept.consistent.known kept.resolved.now

pub returns-in-Ok-clause-follows : goal.returns-in-Ok-clause-follows
returns-in-Ok-clause-follows c =
    let old = c.args.self.now in
    let mid = c.equation_of_args.new.self in
    let t = args_forest old.context.trees in
    let made = c.in-Ok.ensures.made ∙ ap (λ gs. with_left (pendings_of mid.context.trees gs, state mid)) c.as_slice.ensures.value in
    subst (λ (T : State). FollowsEquation (state old) T (t c.args.a) (t c.args.b)) (sym made)
    (equation-follows old (env_forest old.context.trees c.args.env) (t c.args.a) (t c.args.b) (pendings_of mid.context.trees c.in_ok-goals.goals.items) (state mid) (parts c.recall_well_kept.ensures).given c.in_ok-goals.ensures.ok)

pub returns-in-Ok-clause-goes : goal.returns-in-Ok-clause-goes
returns-in-Ok-clause-goes c = goes-trans c.args.self.now c.equation_of_args.new.self c.leave.new.self c.equation_of_args.ensures.goes c.leave.ensures.goes

pub returns-clause-goes : goal.returns-clause-goes
returns-clause-goes c = (taken-back c.args.self.now c.leave.new.self c.undo_to.new.self c.changes-changes.result (c.changes-changes.ensures ∙ ap (λ (e : Evaluator). length e.inference.trail) c.self.view_is) (goes-trans c.args.self.now c.equation_of_args.new.self c.leave.new.self c.equation_of_args.ensures.goes c.leave.ensures.goes) c.undo_to.ensures).0

pub returns-clause-undone : goal.returns-clause-undone
returns-clause-undone c = (taken-back c.args.self.now c.leave.new.self c.undo_to.new.self c.changes-changes.result (c.changes-changes.ensures ∙ ap (λ (e : Evaluator). length e.inference.trail) c.self.view_is) (goes-trans c.args.self.now c.equation_of_args.new.self c.leave.new.self c.equation_of_args.ensures.goes c.leave.ensures.goes) c.undo_to.ensures).1

pub returns-clause-cause : goal.returns-clause-cause
returns-clause-cause c =
    let old = c.args.self.now in
    let ts = old.context.trees in
    stop-said (IsOpeningStop c.undo_to.new.self.context.trees (listing old) (state old) (env_forest ts c.args.env) (args_forest ts c.args.a) (args_forest ts c.args.b)) c.in-Err.stop
    (subst (IsOpeningStop c.undo_to.new.self.context.trees (listing old) (state old) (env_forest ts c.args.env) (args_forest ts c.args.a) (args_forest ts c.args.b)) (sym c.in-Err.ensures.cause) (as_it_is not_begun))

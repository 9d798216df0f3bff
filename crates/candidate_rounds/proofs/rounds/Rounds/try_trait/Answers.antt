use Rattle.std.proofs.Common.{◌≡◌, true, None, Some, false, ap, sym, ◌∙◌, subst}
use Rattle.std.proofs.lemmas.Result.{err_from_is_err_and}
use Rattle.ir_trees.specs.Syntax.Words.{clause_tree, env_forest}
use Rattle.candidate_eval.specs.Outcomes.ResponseTrees.{response_of}
use Rattle.candidate_rounds.specs.Table.Goals.{goal_seen, key_seen}
use Rattle.candidate_rounds.specs.Calls.Requesting.{asked_of}
use Rattle.candidate_rounds.specs.Table.Trying.{answered_trait}
use Rattle.candidate_rounds.specs.Evaluators.Known.{Evaluator, GoesOn, listing, reads, state}
use Rattle.candidate_rounds.specs.Evaluators.Stopping.{IsGivingStop, IsTraitStop, held, of_asking, of_key}
use Rattle.candidate_rounds.proofs.Table.Asking.{asked-given, asked-missing, asked-not-given, asked-open, asked-refused, giving-stop, not-entered, unread-stop}
use Rattle.candidate_rounds.proofs.Table.Requested.{given-not, none-requested, requested-same}
use Rattle.rounds_judge.specs.Table.TableSettling.{given}
use Rattle.candidate_rounds.proofs.Evaluators.Going.{goes-reads, goes-trans}
use Rattle.candidate_rounds.proofs.Stops.SettlingStops.{refusal-passed, stop-becomes}
use Rattle.candidate_rounds.proofs.rounds.Rounds.try_trait.Goals as goal

pub returns-in_err-asked-clause-cause : goal.returns-in_err-asked-clause-cause
returns-in_err-asked-clause-cause c =
    let old = c.args.self.now in
    stop-becomes (IsTraitStop (held c.key_of.new.self) (reads old) (state old) (env_forest old.context.trees c.args.goal.param_env) (clause_tree old.context.trees c.args.goal.predicate)) c.from_residual.result c.in_err-asked.field-0.0
    c.from_residual.ensures.1 (of_key c.in_err-asked.ensures.cause)

pub returns-in_err-request-in-Missing-clause-cause : goal.returns-in_err-request-in-Missing-clause-cause
returns-in_err-request-in-Missing-clause-cause c =
    let old = c.args.self.now in
    stop-becomes (IsTraitStop (held c.request.new.self) (reads old) (state old) (env_forest old.context.trees c.args.goal.param_env) (clause_tree old.context.trees c.args.goal.predicate)) c.from_residual-in_err-request-in-Missing.result
    c.in_err-request-in-Missing.field-0.0 c.from_residual-in_err-request-in-Missing.ensures.1 (of_asking c.in_err-request-in-Missing.ensures.cause)

pub returns-in_ok-request-in-Missing-clause-ok : goal.returns-in_ok-request-in-Missing-clause-ok
returns-in_ok-request-in-Missing-clause-ok c =
    let old = c.args.self.now in
    let mid = c.key_of.new.self in
    let asked = c.in_ok-asked.ensures in
    asked-missing (reads old) (reads mid) (state old) (state mid) (goal_seen old.context.trees c.args.goal) (key_seen mid.context.trees c.in_ok-asked.asked.key) c.in_ok-asked.asked.numbers.items
    (goes-reads old mid c.key_of.ensures.goes c.recall_well_kept.ensures) c.key_of.ensures.state asked.key asked.numbers asked.bare (state c.request.new.self) c.request.ensures.state
    (not-entered _ (key_seen mid.context.trees c.in_ok-asked.asked.key) c.in-Missing.ensures)

pub returns-in_ok-request-in-Missing-clause-asked : goal.returns-in_ok-request-in-Missing-clause-asked
returns-in_ok-request-in-Missing-clause-asked c = λ _.
    c.in_ok-request-in-Missing.ensures.asked ∙ requested-same c.args.self.now c.key_of.new.self c.recall_well_kept.ensures c.key_of.ensures.goes.0 c.key_of.ensures.goals _ _ c.in_ok-asked.ensures.key

pub returns-in-Open-clause-asked : goal.returns-in-Open-clause-asked
returns-in-Open-clause-asked c = λ _.
    let mid = c.key_of.new.self in
    let old = c.args.self.now in
    ap asked_of c.note_look_up.ensures ∙ none-requested old mid c.recall_well_kept.ensures c.key_of.ensures.goes.0 c.key_of.ensures.goals _ _ c.in_ok-asked.ensures.key c.in-Open.ensures.0

pub returns-in-Open-clause-goes : goal.returns-in-Open-clause-goes
returns-in-Open-clause-goes c = subst (GoesOn c.args.self.now) (sym c.note_look_up.ensures) c.key_of.ensures.goes

pub returns-in_ok-give-in-Yes-clause-asked : goal.returns-in_ok-give-in-Yes-clause-asked
returns-in_ok-give-in-Yes-clause-asked c = λ t. given-not t

pub returns-in-Open-clause-ok : goal.returns-in-Open-clause-ok
returns-in-Open-clause-ok c =
    let old = c.args.self.now in
    let mid = c.key_of.new.self in
    let asked = c.in_ok-asked.ensures in
    subst (λ (x : Evaluator). answered_trait (reads old) (state old) (goal_seen old.context.trees c.args.goal) ≡ Some (false, state x)) (sym c.note_look_up.ensures)
    (asked-open (reads old) (reads mid) (state old) (state mid) (goal_seen old.context.trees c.args.goal) (key_seen mid.context.trees c.in_ok-asked.asked.key) c.in_ok-asked.asked.numbers.items
    (goes-reads old mid c.key_of.ensures.goes c.recall_well_kept.ensures) c.key_of.ensures.state asked.key asked.numbers asked.bare c.in-Open.ensures.1)

pub returns-in-Refused-clause-refused : goal.returns-in-Refused-clause-refused
returns-in-Refused-clause-refused c = λ _.
    let old = c.args.self.now in
    let mid = c.key_of.new.self in
    let asked = c.in_ok-asked.ensures in
    asked-refused (reads old) (reads mid) (state old) (state mid) (goal_seen old.context.trees c.args.goal) (key_seen mid.context.trees c.in_ok-asked.asked.key) c.in_ok-asked.asked.numbers.items
    (goes-reads old mid c.key_of.ensures.goes c.recall_well_kept.ensures) c.key_of.ensures.state asked.key asked.numbers asked.bare c.in-Refused.ensures

pub returns-in_err-response-in-Yes-clause-cause : goal.returns-in_err-response-in-Yes-clause-cause
returns-in_err-response-in-Yes-clause-cause c =
    let old = c.args.self.now in
    unread-stop (held c.key_of.new.self) (reads old) (state old) (env_forest old.context.trees c.args.goal.param_env) (clause_tree old.context.trees c.args.goal.predicate) c.from_residual-in_err-response-in-Yes.result
    c.in_err-response-in-Yes.field-0.0 c.from_residual-in_err-response-in-Yes.ensures.1 c.in_err-response-in-Yes.ensures.cause

pub returns-in_err-give-in-Yes-clause-goes : goal.returns-in_err-give-in-Yes-clause-goes
returns-in_err-give-in-Yes-clause-goes c = goes-trans c.args.self.now c.key_of.new.self c.give.new.self c.key_of.ensures.goes c.give.ensures.goes

pub returns-in_ok-give-in-Yes-clause-goes : goal.returns-in_ok-give-in-Yes-clause-goes
returns-in_ok-give-in-Yes-clause-goes c =
    subst (GoesOn c.args.self.now) (sym c.note_leak.ensures) (goes-trans c.args.self.now c.key_of.new.self c.give.new.self c.key_of.ensures.goes c.give.ensures.goes)

pub returns-in_err-give-in-Yes-clause-refused : goal.returns-in_err-give-in-Yes-clause-refused
returns-in_err-give-in-Yes-clause-refused c =
    let old = c.args.self.now in
    let mid = c.key_of.new.self in
    let asked = c.in_ok-asked.ensures in
    let r = err_from_is_err_and c.from_residual-in_err-give-in-Yes.result c.from_residual-in_err-give-in-Yes.ensures.1 in
    rw r.1
    (λ n. asked-not-given (reads old) (reads mid) (state old) (state mid) (goal_seen old.context.trees c.args.goal) (key_seen mid.context.trees c.in_ok-asked.asked.key) c.in_ok-asked.asked.numbers.items
    (goes-reads old mid c.key_of.ensures.goes c.recall_well_kept.ensures) c.key_of.ensures.state asked.key asked.numbers asked.bare (response_of mid.context.trees c.in_ok-response-in-Yes.response) c.in_ok-response-in-Yes.ensures.read
    (subst (λ ns. given (listing mid) (state mid) (key_seen mid.context.trees c.in_ok-asked.asked.key) ns (response_of mid.context.trees c.in_ok-response-in-Yes.response) ≡ None) c.as_slice.ensures.value
    (c.in_err-give-in-Yes.ensures.refused (sym r.2 ∙ n))))

pub returns-in_ok-give-in-Yes-clause-ok : goal.returns-in_ok-give-in-Yes-clause-ok
returns-in_ok-give-in-Yes-clause-ok c =
    let old = c.args.self.now in
    let mid = c.key_of.new.self in
    let asked = c.in_ok-asked.ensures in
    subst (λ (e : Evaluator). answered_trait (reads old) (state old) (goal_seen old.context.trees c.args.goal) ≡ Some (true, state e)) (sym c.note_leak.ensures)
    (asked-given (reads old) (reads mid) (state old) (state mid) (goal_seen old.context.trees c.args.goal) (key_seen mid.context.trees c.in_ok-asked.asked.key) c.in_ok-asked.asked.numbers.items
    (goes-reads old mid c.key_of.ensures.goes c.recall_well_kept.ensures) c.key_of.ensures.state asked.key asked.numbers asked.bare (response_of mid.context.trees c.in_ok-response-in-Yes.response) (state c.give.new.self) c.in_ok-response-in-Yes.ensures.read
    (subst (λ ns. given (listing mid) (state mid) (key_seen mid.context.trees c.in_ok-asked.asked.key) ns (response_of mid.context.trees c.in_ok-response-in-Yes.response) ≡ Some (state c.give.new.self)) c.as_slice.ensures.value c.in_ok-give-in-Yes.ensures.ok))

pub returns-in_err-give-in-Yes-clause-cause : goal.returns-in_err-give-in-Yes-clause-cause
returns-in_err-give-in-Yes-clause-cause c =
    let old = c.args.self.now in
    let mid = c.key_of.new.self in
    let asked = c.in_ok-asked.ensures in
    let h = held c.give.new.self in
    let k = key_seen mid.context.trees c.in_ok-asked.asked.key in
    let a = response_of mid.context.trees c.in_ok-response-in-Yes.response in
    refusal-passed (IsTraitStop h (reads old) (state old) (env_forest old.context.trees c.args.goal.param_env) (clause_tree old.context.trees c.args.goal.predicate))
    (IsGivingStop h.trees (listing mid) (state mid) k c.as_slice.result.now a) c.from_residual-in_err-give-in-Yes.result c.in_err-give-in-Yes.field-0.0 c.from_residual-in_err-give-in-Yes.ensures.1 c.in_err-give-in-Yes.ensures.cause
    (λ s g. giving-stop h (reads old) (reads mid) (state old) (state mid) (env_forest old.context.trees c.args.goal.param_env) (clause_tree old.context.trees c.args.goal.predicate) k c.as_slice.result.now a s
    (goes-reads old mid c.key_of.ensures.goes c.recall_well_kept.ensures) c.key_of.ensures.state asked.key (c.as_slice.ensures.value ∙ asked.numbers) c.in_ok-response-in-Yes.ensures.read g)

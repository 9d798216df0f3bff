use Rattle.std.proofs.Common.{◌≡◌, subst, ◌∙◌}
use Rattle.std.proofs.lemmas.Result.{IfOk-weaker}
use Rattle.ir_trees.proofs.Growth.Kept.{args-kept}
use Rattle.candidate_assembly.proofs.Calls.Causes.{so-err}
use Rattle.candidate_assembly.specs.Goals.TraitGoals.{trait_goal}
use Rattle.candidate_eval.proofs.Dynamic.Objects.{env-kept}
use Rattle.candidate_eval.specs.Judges.States.{State}
use Rattle.candidate_rounds.specs.Evaluators.Known.{state, sure_of}
use Rattle.candidate_rounds.specs.Table.Goals.{Via}
use Rattle.candidate_rounds.proofs.Table.Noted.{sure-keeps}
use Rattle.rounds_judge.specs.Table.GoalTable.{GoalTable, verdict_in}
use Rattle.rounds_judge.specs.Table.Keys.{key_at}
use Rattle.candidate_eval.specs.Derivations.ImplRules.{TraitGoal}
use Rattle.overlaps.proofs.AskedClauses.{arguments-fit-kept}
use Rattle.overlaps.proofs.Stopping.{later-steps, passed-on, stop-later}
use Rattle.overlaps.proofs.Uncertainty.{goal-later}
use Rattle.overlaps.specs.Answered.{HoldsForAll, IsPlainYes}
use Rattle.overlaps.specs.Stopping.{IsOverlapStop}
use Rattle.overlaps.proofs.Staying.{stays-trans}
use Rattle.overlaps.proofs.negation.is_answered_for_all.Goals as goal

pub is_predicate_answered-requires-clause-env : goal.is_predicate_answered-requires-clause-env
is_predicate_answered-requires-clause-env c = (env-kept _ _ c.args.env c.holds_for_all.ensures.stays.grows c.requires.env).0

pub is_predicate_answered-requires-clause-args : goal.is_predicate_answered-requires-clause-args
is_predicate_answered-requires-clause-args c = (args-kept _ _ c.args.predicate.trait_ref.args c.holds_for_all.ensures.stays.grows c.requires.args).0

pub is_predicate_answered-requires-clause-fit : goal.is_predicate_answered-requires-clause-fit
is_predicate_answered-requires-clause-fit c =
    arguments-fit-kept c.args.rounds.now.context c.holds_for_all.new.rounds.context c.args.predicate.trait_ref c.holds_for_all.ensures.stays.grows c.requires.args c.requires.fit

pub returns-in_err-holds_for_all-clause-cause : goal.returns-in_err-holds_for_all-clause-cause
returns-in_err-holds_for_all-clause-cause c =
    passed-on (IsOverlapStop c.args.rounds.now c.holds_for_all.new.rounds) c.from_residual.result c.in_err-holds_for_all.field-0.0 c.from_residual.ensures.1 c.in_err-holds_for_all.ensures.cause

pub returns-clause-stays : goal.returns-clause-stays
returns-clause-stays c = stays-trans c.holds_for_all.ensures.stays c.is_predicate_answered.ensures.stays

pub returns-clause-sure : goal.returns-clause-sure
returns-clause-sure c = c.is_predicate_answered.ensures.sure ∙ c.holds_for_all.ensures.sure

pub returns-clause-answered : goal.returns-clause-answered
returns-clause-answered c =
    let old = c.args.rounds.now in
    let mid = c.holds_for_all.new.rounds in
    let u = c.holds_for_all.ensures.sure in
    let s = c.holds_for_all.ensures.stays.state_same in
    let g = goal-later old mid c.args.env c.args.predicate c.holds_for_all.ensures.stays.grows c.requires.env c.requires.args in
    IfOk-weaker c.is_predicate_answered.result _ _
    (λ b h yes. subst (λ (q : GoalTable Via × State × TraitGoal). IsPlainYes (verdict_in q.0 (key_at q.1 q.2))) (λ i. (u i, s i, g i)) (h yes)) c.is_predicate_answered.ensures.answered

pub returns-clause-for_all : goal.returns-clause-for_all
returns-clause-for_all c =
    let r = c.args.rounds.now in
    let k = key_at (state r) (trait_goal r.context.trees c.args.env c.args.predicate) in
    let all = sure-keeps HoldsForAll tt r k (c.in_ok-holds_for_all.ensures.holds c.if-not-branch.false) in
    IfOk-weaker c.is_predicate_answered.result _ _ (λ b h yes. all) c.is_predicate_answered.ensures.answered

pub returns-clause-cause : goal.returns-clause-cause
returns-clause-cause c = so-err c.is_predicate_answered.result (λ s k. stop-later (later-steps c.holds_for_all.ensures.stays) k) c.is_predicate_answered.ensures.cause

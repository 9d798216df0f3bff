use Rattle.std.proofs.Common.{◌∙◌, inl, inr, rules, subst}
use Rattle.std.proofs.lemmas.Result.{IfOk-weaker}
use Rattle.candidate_eval.proofs.Dynamic.Objects.{env-kept}
use Rattle.overlaps.proofs.PureFolder.{impl-earlier}
use Rattle.candidate_eval.specs.Judges.States.{State}
use Rattle.candidate_rounds.specs.Evaluators.Known.{state, sure_of}
use Rattle.candidate_rounds.specs.Table.Goals.{Via}
use Rattle.rounds_judge.specs.Table.GoalTable.{GoalTable}
use Rattle.overlaps.specs.Uncertain.{ImplHoldsNot}
use Rattle.overlaps.proofs.Uncertainty.{impl-not-earlier}
use Rattle.overlaps.proofs.Pairs.{pair-later}
use Rattle.overlaps.proofs.Stopping.{later-steps, passed-on, stop-later}
use Rattle.overlaps.specs.Stopping.{IsOverlapStop}
use Rattle.overlaps.proofs.Staying.{stays-trans}
use Rattle.candidate_assembly.proofs.Calls.Causes.{so-err}
use Rattle.overlaps.proofs.answered.are_answered.Goals as goal

pub is_impl_answered-requires-2-clause-env : goal.is_impl_answered-requires-2-clause-env
is_impl_answered-requires-2-clause-env c = (env-kept _ _ c.args.env c.is_impl_answered.ensures.stays.grows c.requires.env).0

pub is_impl_answered-requires-2-clause-empty : goal.is_impl_answered-requires-2-clause-empty
is_impl_answered-requires-2-clause-empty c = (env-kept _ _ c.args.env c.is_impl_answered.ensures.stays.grows c.requires.env).1 ∙ c.requires.empty

pub is_impl_answered-requires-2-clause-open : goal.is_impl_answered-requires-2-clause-open
is_impl_answered-requires-2-clause-open c =
    let both = pair-later c.args.rounds.now.context c.is_impl_answered.new.rounds.context c.args.pair.now c.is_impl_answered.ensures.stays.grows c.requires.pair in
    search rules

pub returns-clause-stays : goal.returns-clause-stays
returns-clause-stays c = stays-trans c.is_impl_answered.ensures.stays c.is_impl_answered-2.ensures.stays

pub returns-clause-table : goal.returns-clause-table
returns-clause-table c = c.is_impl_answered-2.ensures.table ∙ c.is_impl_answered.ensures.table

pub returns-clause-hold : goal.returns-clause-hold
returns-clause-hold c =
    IfOk-weaker c.is_impl_answered-2.result _ _
    (λ b h e. record {
      first = c.in_ok-is_impl_answered.ensures.hold c.if-not-branch.false;
      second = impl-earlier c.args.rounds.now c.is_impl_answered.new.rounds c.args.pair.now.second c.is_impl_answered.ensures.stays c.is_impl_answered.ensures.sure c.requires.pair.1 (h e);
    }) c.is_impl_answered-2.ensures.hold

pub returns-in_err-is_impl_answered-clause-cause : goal.returns-in_err-is_impl_answered-clause-cause
returns-in_err-is_impl_answered-clause-cause c = passed-on (IsOverlapStop c.args.rounds.now c.is_impl_answered.new.rounds) c.from_residual.result c.in_err-is_impl_answered.field-0.0 c.from_residual.ensures.1 (c.in_err-is_impl_answered.ensures.cause)

pub returns-clause-cause : goal.returns-clause-cause
returns-clause-cause c = so-err c.is_impl_answered-2.result (λ s k. stop-later (later-steps c.is_impl_answered.ensures.stays) k) c.is_impl_answered-2.ensures.cause

pub returns-then-not-branch-clause-uncertain : goal.returns-then-not-branch-clause-uncertain
returns-then-not-branch-clause-uncertain c = λ no. inl (c.in_ok-is_impl_answered.ensures.uncertain c.if-not-branch.true)

pub returns-clause-uncertain : goal.returns-clause-uncertain
returns-clause-uncertain c =
    let old = c.args.rounds.now in
    let mid = c.is_impl_answered.new.rounds in
    let o = c.args.pair.now.second in
    let t = c.is_impl_answered.ensures.sure in
    let s = c.is_impl_answered.ensures.stays.state_same in
    IfOk-weaker c.is_impl_answered-2.result _ _
    (λ b h e. inr (impl-not-earlier old.context mid.context (sure_of old) (state old) o c.is_impl_answered.ensures.stays.grows c.requires.pair.1
    (subst (λ (q : GoalTable Via × State). ImplHoldsNot mid.context q.0 q.1 o) (λ i. (t i, s i)) (h e)))) c.is_impl_answered-2.ensures.uncertain

pub returns-clause-sure : goal.returns-clause-sure
returns-clause-sure c = c.is_impl_answered-2.ensures.sure ∙ c.is_impl_answered.ensures.sure

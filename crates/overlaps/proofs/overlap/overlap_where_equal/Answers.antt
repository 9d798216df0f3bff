use Rattle.std.proofs.Common.{sym, subst, ◌∙◌}
use Rattle.ir_trees.proofs.Growth.Kept.{args-kept, grows-trans}
use Rattle.candidate_eval.proofs.Dynamic.Objects.{env-kept}
use Rattle.candidate_rounds.specs.Evaluators.Known.{state, sure_of, table_of}
use Rattle.overlaps.specs.Asked.{BothStay}
use Rattle.overlaps.proofs.Instances.{instance-where-equal}
use Rattle.candidate_eval.specs.Judges.States.{State}
use Rattle.candidate_rounds.specs.Table.Goals.{Via}
use Rattle.rounds_judge.specs.Table.GoalTable.{GoalTable}
use Rattle.overlaps.specs.Uncertain.{IsUncertainWhereEqual}
use Rattle.overlaps.proofs.Uncertainty.{where-equal-earlier}
use Rattle.overlaps.proofs.Pairs.{pair-later}
use Rattle.overlaps.proofs.Stopping.{later-steps, passed-on, stop-later}
use Rattle.overlaps.specs.Stopping.{IsOverlapStop}
use Rattle.overlaps.proofs.Staying.{stays-trans}
use Rattle.overlaps.proofs.overlap.overlap_where_equal.Goals as goal

pub are_certain-requires-clause-env : goal.are_certain-requires-clause-env
are_certain-requires-clause-env c = (env-kept _ _ c.args.env c.refused_clause.ensures.stays.grows c.requires.env).0

pub are_certain-requires-clause-empty : goal.are_certain-requires-clause-empty
are_certain-requires-clause-empty c = (env-kept _ _ c.args.env c.refused_clause.ensures.stays.grows c.requires.env).1 ∙ c.requires.empty

pub are_certain-requires-clause-pair : goal.are_certain-requires-clause-pair
are_certain-requires-clause-pair c = pair-later c.args.rounds.now.context c.refused_clause.new.rounds.context c.args.pair.now c.refused_clause.ensures.stays.grows c.requires.pair

pub common_instance-requires : goal.common_instance-requires
common_instance-requires c =
    (args-kept _ _ c.args.pair.now.first.header (grows-trans _ _ _ c.refused_clause.ensures.stays.grows c.are_certain.ensures.stays.grows) c.requires.pair.0.1).0

pub returns-in_err-is_certain-clause-stays : goal.returns-in_err-is_certain-clause-stays
returns-in_err-is_certain-clause-stays c = stays-trans c.refused_clause.ensures.stays c.are_certain.ensures.stays

pub returns-in_err-instance-clause-stays : goal.returns-in_err-instance-clause-stays
returns-in_err-instance-clause-stays c = stays-trans c.refused_clause.ensures.stays (stays-trans c.are_certain.ensures.stays c.common_instance.ensures.stays)

pub returns-clause-stays : goal.returns-clause-stays
returns-clause-stays c = stays-trans c.refused_clause.ensures.stays (stays-trans c.are_certain.ensures.stays c.common_instance.ensures.stays)

pub returns-clause-is : goal.returns-clause-is
returns-clause-is c =
    instance-where-equal c.args.rounds.now c.refused_clause.new.rounds c.are_certain.new.rounds c.common_instance.new.rounds c.args.pair.now c.in_ok-instance.instance c.in_ok-is_certain.is_certain
    c.refused_clause.ensures.stays c.are_certain.ensures.stays (c.common_instance.ensures.sure ∙ c.are_certain.ensures.sure) c.requires.pair c.in_ok-is_certain.ensures.hold c.in_ok-is_certain.ensures.no_alias c.in_ok-instance.ensures.certain
    c.in_ok-instance.ensures.is

pub returns-in_err-clause-clause-cause : goal.returns-in_err-clause-clause-cause
returns-in_err-clause-clause-cause c = passed-on (IsOverlapStop c.args.rounds.now c.refused_clause.new.rounds) c.from_residual.result c.in_err-clause.field-0.0 c.from_residual.ensures.1 (c.in_err-clause.ensures.cause)

pub returns-in_err-is_certain-clause-cause : goal.returns-in_err-is_certain-clause-cause
returns-in_err-is_certain-clause-cause c = passed-on (IsOverlapStop c.args.rounds.now c.are_certain.new.rounds) c.from_residual-in_err-is_certain.result c.in_err-is_certain.field-0.0 c.from_residual-in_err-is_certain.ensures.1 (stop-later (later-steps c.refused_clause.ensures.stays) c.in_err-is_certain.ensures.cause)

pub returns-in_err-instance-clause-cause : goal.returns-in_err-instance-clause-cause
returns-in_err-instance-clause-cause c = passed-on (IsOverlapStop c.args.rounds.now c.common_instance.new.rounds) c.from_residual-in_err-instance.result c.in_err-instance.field-0.0 c.from_residual-in_err-instance.ensures.1 (stop-later (later-steps (stays-trans c.refused_clause.ensures.stays c.are_certain.ensures.stays)) c.in_err-instance.ensures.cause)

pub returns-clause-asked : goal.returns-clause-asked
returns-clause-asked c =
    let old = c.args.rounds.now in
    subst (BothStay old (state old) c.args.effort c.args.pair.now (table_of old)) (sym (c.common_instance.ensures.table ∙ c.are_certain.ensures.table)) (c.in_ok-clause.ensures.asked c.in_default.is)

pub returns-clause-uncertain : goal.returns-clause-uncertain
returns-clause-uncertain c = λ e.
    let old = c.args.rounds.now in
    let mid = c.refused_clause.new.rounds in
    let t = sym (c.common_instance.ensures.sure ∙ c.are_certain.ensures.sure) in
    let s = c.refused_clause.ensures.stays.state_same in
    where-equal-earlier old.context mid.context (sure_of c.common_instance.new.rounds) (state old) c.args.pair.now c.refused_clause.ensures.stays.grows c.requires.pair
    (subst (λ (q : GoalTable Via × State). IsUncertainWhereEqual mid.context q.0 q.1 c.args.pair.now) (λ i. (t i, s i)) (c.in_ok-is_certain.ensures.uncertain (sym c.in_ok-instance.ensures.certain ∙ e)))

use Rattle.std.proofs.Common.{◌≡◌, ◌⊎◌, true, sym, subst}
use Rattle.candidate_rounds.specs.Evaluators.Known.{state, sure_of, table_of}
use Rattle.overlaps.specs.Asked.{BothStay, OfClause, StayBefore, WhereMay}
use Rattle.overlaps.specs.Found.{IsFoundWhereEqual}
use Rattle.overlaps.specs.Instance.{TellsLeak}
use Rattle.overlaps.specs.Stopping.{IsOverlapStop}
use Rattle.overlaps.specs.Uncertain.{IsUncertainWhereEqual, WhereUncertain}
use Rattle.overlaps.specs.declared.overlap.Overlap.{Overlap}
use Rattle.overlaps.proofs.AskedPairs.{unless-asked, unless-before}
use Rattle.overlaps.proofs.Instances.{unless-found}
use Rattle.overlaps.proofs.Stopping.{passed-on}
use Rattle.overlaps.proofs.Uncertainty.{unless-uncertain}
use Rattle.overlaps.proofs.overlap.overlap_unless_leaking.Goals as goal

pub returns-in_err-answer-clause-cause : goal.returns-in_err-answer-clause-cause
returns-in_err-answer-clause-cause c =
    passed-on (IsOverlapStop c.args.rounds.now c.overlap_where_equal.new.rounds) c.from_residual.result c.in_err-answer.field-0.0 c.from_residual.ensures.1 c.in_err-answer.ensures.cause

pub returns-clause-is : goal.returns-clause-is
returns-clause-is c =
    let new = c.overlap_where_equal.new.rounds in
    subst (λ (o : Overlap). IsFoundWhereEqual c.args.rounds.now new c.args.pair.now o × TellsLeak c.args.leaks o) (sym c.unless_leaking.ensures)
    (unless-found c.args.rounds.now new c.args.pair.now c.args.leaks c.in_ok-answer.answer c.in_ok-answer.ensures.is)

pub returns-clause-asked : goal.returns-clause-asked
returns-clause-asked c =
    let r = c.args.rounds.now in
    let new = c.overlap_where_equal.new.rounds in
    subst (WhereMay (BothStay r (state r) c.args.effort c.args.pair.now (table_of r) (table_of new))) (sym c.unless_leaking.ensures) (unless-asked (BothStay r (state r) c.args.effort c.args.pair.now (table_of r) (table_of new)) c.args.leaks c.in_ok-answer.answer c.in_ok-answer.ensures.asked)

pub returns-clause-before : goal.returns-clause-before
returns-clause-before c =
    let r = c.args.rounds.now in
    subst (OfClause (StayBefore r (state r) c.args.effort c.args.pair.now (table_of r))) (sym c.unless_leaking.ensures) (unless-before (StayBefore r (state r) c.args.effort c.args.pair.now (table_of r)) c.args.leaks c.in_ok-answer.answer c.in_ok-answer.ensures.before)

pub returns-clause-uncertain : goal.returns-clause-uncertain
returns-clause-uncertain c =
    let r = c.args.rounds.now in
    let new = c.overlap_where_equal.new.rounds in
    subst (WhereUncertain ((c.args.leaks ≡ true) ⊎ IsUncertainWhereEqual r.context (sure_of new) (state r) c.args.pair.now)) (sym c.unless_leaking.ensures)
    (unless-uncertain (IsUncertainWhereEqual r.context (sure_of new) (state r) c.args.pair.now) c.args.leaks c.in_ok-answer.answer c.in_ok-answer.ensures.uncertain)

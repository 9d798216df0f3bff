use Rattle.std.proofs.Common.{rules, subst}
use Rattle.std.proofs.lemmas.Result.{IfOk-weaker}
use Rattle.ir_trees.specs.Validity.WellFormed.{IsWellFormedTable}
use Rattle.candidate_rounds.specs.Evaluators.Known.{state, sure_of, table_of}
use Rattle.overlaps.proofs.AskedPairs.{may-weaker, of-clause-weaker, pair-declared, pair-declared-before}
use Rattle.overlaps.specs.Opening.{AreOpened}
use Rattle.overlaps.proofs.Uncertainty.{uncertain-declared, uncertain-weaker}
use Rattle.overlaps.proofs.Instances.{found-decides, found-here}
use Rattle.overlaps.proofs.Pairs.{pair-pending}
use Rattle.overlaps.proofs.Staying.{known-kept, known-then}
use Rattle.overlaps.proofs.Stopping.{asking-stop, later-kept, later-refl, passed-on, stop-later}
use Rattle.overlaps.specs.Stopping.{IsOverlapStop}
use Rattle.candidate_assembly.proofs.Calls.Causes.{so-err}
use Rattle.overlaps.proofs.overlap.overlap_here.Goals as goal

pub returns-in_err-pair-clause-stays : goal.returns-in_err-pair-clause-stays
returns-in_err-pair-clause-stays c = known-kept c.open_both.ensures.kept

pub returns-in_default-clause-stays : goal.returns-in_default-clause-stays
returns-in_default-clause-stays c = known-kept c.open_both.ensures.kept

pub overlap_of_pair-requires-clause-pending : goal.overlap_of_pair-requires-clause-pending
overlap_of_pair-requires-clause-pending c =
    let old = c.args.rounds.now in
    let mid = c.open_both.new.ecx in
    let o : AreOpened old.context (state old) c.args.first c.args.second mid.context (state mid) c.in-Some.pair = search rules in
    pair-pending old.context (state old) c.args.first c.args.second mid.context (state mid) c.in-Some.pair o c.requires.pending

pub returns-clause-is : goal.returns-clause-is
returns-clause-is c =
    let old = c.args.rounds.now in
    let mid = c.open_both.new.ecx in
    let p = c.in-Some.pair in
    let kept = c.open_both.ensures.kept in
    let o : AreOpened old.context (state old) c.args.first c.args.second mid.context (state mid) p = search rules in
    IfOk-weaker c.overlap_of_pair.result _ _
    (found-here old mid c.overlap_of_pair.new.rounds c.args.first c.args.second p kept.grows kept.fixed_same o (subst IsWellFormedTable c.cx.ensures c.recall_well_formed_table.ensures)
    c.recall_given.ensures c.requires.one)
    c.overlap_of_pair.ensures.is

pub returns-in_err-pair-clause-cause : goal.returns-in_err-pair-clause-cause
returns-in_err-pair-clause-cause c = passed-on (IsOverlapStop c.args.rounds.now c.open_both.new.ecx) c.from_residual.result c.in_err-pair.field-0.0 c.from_residual.ensures.1 (asking-stop (later-refl c.args.rounds.now) c.in_err-pair.ensures.cause)

pub returns-clause-cause : goal.returns-clause-cause
returns-clause-cause c = so-err c.overlap_of_pair.result (λ s k. stop-later (later-kept c.open_both.ensures.kept) k) c.overlap_of_pair.ensures.cause

pub returns-clause-asked : goal.returns-clause-asked
returns-clause-asked c =
    let old = c.args.rounds.now in
    let mid = c.open_both.new.ecx in
    let p = c.in-Some.pair in
    let kept = c.open_both.ensures.kept in
    let o : AreOpened old.context (state old) c.args.first c.args.second mid.context (state mid) p = search rules in
    IfOk-weaker c.overlap_of_pair.result _ _
    (may-weaker (pair-declared old mid c.args.effort c.args.first c.args.second p (table_of c.overlap_of_pair.new.rounds) (later-kept kept) kept.fixed_same o))
    c.overlap_of_pair.ensures.asked

pub returns-clause-before : goal.returns-clause-before
returns-clause-before c =
    let old = c.args.rounds.now in
    let mid = c.open_both.new.ecx in
    let p = c.in-Some.pair in
    let kept = c.open_both.ensures.kept in
    let o : AreOpened old.context (state old) c.args.first c.args.second mid.context (state mid) p = search rules in
    IfOk-weaker c.overlap_of_pair.result _ _ (of-clause-weaker (pair-declared-before old mid c.args.effort c.args.first c.args.second p (later-kept kept) kept.fixed_same o)) c.overlap_of_pair.ensures.before

pub returns-clause-uncertain : goal.returns-clause-uncertain
returns-clause-uncertain c =
    let old = c.args.rounds.now in
    let mid = c.open_both.new.ecx in
    let p = c.in-Some.pair in
    let kept = c.open_both.ensures.kept in
    let o : AreOpened old.context (state old) c.args.first c.args.second mid.context (state mid) p = search rules in
    IfOk-weaker c.overlap_of_pair.result _ _
    (uncertain-weaker (uncertain-declared old mid c.args.first c.args.second p (sure_of c.overlap_of_pair.new.rounds) kept.grows kept.fixed_same o)) c.overlap_of_pair.ensures.uncertain

pub returns-clause-decided : goal.returns-clause-decided
returns-clause-decided c =
    let mid = c.open_both.new.ecx in
    IfOk-weaker c.overlap_of_pair.result _ _ (found-decides mid c.overlap_of_pair.new.rounds c.in-Some.pair) c.overlap_of_pair.ensures.is

pub returns-clause-stays : goal.returns-clause-stays
returns-clause-stays c = known-then (known-kept c.open_both.ensures.kept) c.overlap_of_pair.ensures.stays

use Rattle.std.proofs.Common.{rules}
use Rattle.std.proofs.lemmas.Result.{IfOk-weaker}
use Rattle.candidate_assembly.proofs.Calls.Causes.{so-err}
use Rattle.candidate_rounds.specs.Evaluators.Known.{state}
use Rattle.overlaps.specs.Apart.{IfDeclared}
use Rattle.overlaps.specs.Opening.{AreNotDeclared, AreOpened}
use Rattle.overlaps.specs.Reasons.{of_other_traits}
use Rattle.overlaps.specs.Stopping.{IsOverlapStop}
use Rattle.overlaps.proofs.Pairs.{are-open, pair-pending}
use Rattle.overlaps.proofs.OpenClauses.{lists-declared}
use Rattle.overlaps.proofs.Staying.{known-kept, known-then}
use Rattle.overlaps.proofs.Stopping.{asking-stop, later-kept, later-refl, passed-on, stop-later}
use Rattle.overlaps.proofs.reasons.open_here.Goals as goal

pub returns-in_err-pair-clause-stays : goal.returns-in_err-pair-clause-stays
returns-in_err-pair-clause-stays c = known-kept c.open_both.ensures.kept

pub returns-in_err-pair-clause-cause : goal.returns-in_err-pair-clause-cause
returns-in_err-pair-clause-cause c = passed-on (IsOverlapStop c.args.rounds.now c.open_both.new.ecx) c.from_residual.result c.in_err-pair.field-0.0 c.from_residual.ensures.1 (asking-stop (later-refl c.args.rounds.now) c.in_err-pair.ensures.cause)

pub returns-in_default-clause-stays : goal.returns-in_default-clause-stays
returns-in_default-clause-stays c = known-kept c.open_both.ensures.kept

pub returns-in_default-clause-lists : goal.returns-in_default-clause-lists
returns-in_default-clause-lists c =
    let none : AreNotDeclared c.args.rounds.now.context c.args.first c.args.second = search rules in
    of_other_traits (λ i j e f same. none i j e f) c.new.ensures.items

pub open_of_pair-requires-clause-pending : goal.open_of_pair-requires-clause-pending
open_of_pair-requires-clause-pending c =
    let old = c.args.rounds.now in
    let mid = c.open_both.new.ecx in
    let o : AreOpened old.context (state old) c.args.first c.args.second mid.context (state mid) c.in-Some.pair = search rules in
    pair-pending old.context (state old) c.args.first c.args.second mid.context (state mid) c.in-Some.pair o c.requires.pending

pub open_of_pair-requires-clause-pair : goal.open_of_pair-requires-clause-pair
open_of_pair-requires-clause-pair c =
    let old = c.args.rounds.now in
    let mid = c.open_both.new.ecx in
    let o : AreOpened old.context (state old) c.args.first c.args.second mid.context (state mid) c.in-Some.pair = search rules in
    are-open old.context (state old) c.args.first c.args.second mid.context (state mid) c.in-Some.pair o

pub returns-clause-lists : goal.returns-clause-lists
returns-clause-lists c =
    let old = c.args.rounds.now in
    let mid = c.open_both.new.ecx in
    let p = c.in-Some.pair in
    let kept = c.open_both.ensures.kept in
    let o : AreOpened old.context (state old) c.args.first c.args.second mid.context (state mid) p = search rules in
    IfOk-weaker c.open_of_pair.result _ _ (λ v h. lists-declared old mid c.open_of_pair.new.rounds c.args.first c.args.second p v.items kept.grows kept.fixed_same o h) c.open_of_pair.ensures.lists

pub returns-clause-cause : goal.returns-clause-cause
returns-clause-cause c = so-err c.open_of_pair.result (λ s k. stop-later (later-kept c.open_both.ensures.kept) k) c.open_of_pair.ensures.cause

pub returns-clause-stays : goal.returns-clause-stays
returns-clause-stays c = known-then (known-kept c.open_both.ensures.kept) c.open_of_pair.ensures.stays

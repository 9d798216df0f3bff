use Rattle.std.proofs.Common.{rules}
use Rattle.std.proofs.lemmas.Result.{IfOk-weaker}
use Rattle.candidate_assembly.proofs.Calls.Causes.{so-err}
use Rattle.candidate_rounds.specs.Evaluators.Known.{state}
use Rattle.overlaps.specs.Opening.{AreOpened}
use Rattle.overlaps.proofs.Pairs.{are-open}
use Rattle.overlaps.proofs.Staying.{known-kept, known-then}
use Rattle.overlaps.proofs.Stopping.{asking-stop, later-kept, later-refl, passed-on, stop-later}
use Rattle.overlaps.proofs.JointPairs.{together-declared}
use Rattle.overlaps.specs.Stopping.{IsOverlapStop}
use Rattle.overlaps.proofs.together.apart_here.Goals as goal

pub returns-in_err-pair-clause-stays : goal.returns-in_err-pair-clause-stays
returns-in_err-pair-clause-stays c = known-kept c.open_both.ensures.kept

pub returns-in_err-pair-clause-cause : goal.returns-in_err-pair-clause-cause
returns-in_err-pair-clause-cause c = passed-on (IsOverlapStop c.args.rounds.now c.open_both.new.ecx) c.from_residual.result c.in_err-pair.field-0.0 c.from_residual.ensures.1 (asking-stop (later-refl c.args.rounds.now) c.in_err-pair.ensures.cause)

pub returns-in_default-clause-stays : goal.returns-in_default-clause-stays
returns-in_default-clause-stays c = known-kept c.open_both.ensures.kept

pub apart_of_pair-requires-clause-pair : goal.apart_of_pair-requires-clause-pair
apart_of_pair-requires-clause-pair c =
    let old = c.args.rounds.now in
    let mid = c.open_both.new.ecx in
    let o : AreOpened old.context (state old) c.args.first c.args.second mid.context (state mid) c.in-Some.pair = search rules in
    are-open old.context (state old) c.args.first c.args.second mid.context (state mid) c.in-Some.pair o

pub returns-clause-stays : goal.returns-clause-stays
returns-clause-stays c = known-then (known-kept c.open_both.ensures.kept) c.apart_of_pair.ensures.stays

pub returns-clause-apart : goal.returns-clause-apart
returns-clause-apart c =
    let old = c.args.rounds.now in
    let mid = c.open_both.new.ecx in
    let kept = c.open_both.ensures.kept in
    let o : AreOpened old.context (state old) c.args.first c.args.second mid.context (state mid) c.in-Some.pair = search rules in
    IfOk-weaker c.apart_of_pair.result _ _ (λ b h e. together-declared old mid c.args.first c.args.second c.in-Some.pair kept.grows (later-kept kept) kept.fixed_same o (h e)) c.apart_of_pair.ensures.apart

pub returns-clause-cause : goal.returns-clause-cause
returns-clause-cause c = so-err c.apart_of_pair.result (λ s k. stop-later (later-kept c.open_both.ensures.kept) k) c.apart_of_pair.ensures.cause

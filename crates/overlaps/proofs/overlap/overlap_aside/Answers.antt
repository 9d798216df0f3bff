use Rattle.std.proofs.Common.{sym, subst}
use Rattle.std.proofs.lemmas.Result.{IfOk-weaker}
use Rattle.candidate_rounds.specs.Evaluators.Known.{state}
use Rattle.overlaps.specs.Apart.{aside}
use Rattle.overlaps.specs.Refused.{StaysBesideSteps}
use Rattle.overlaps.proofs.AskedPairs.{asked-probed, before-probed, may-weaker, of-clause-weaker}
use Rattle.overlaps.proofs.Instances.{found-probed}
use Rattle.overlaps.proofs.Uncertainty.{uncertain-probed, uncertain-weaker}
use Rattle.overlaps.proofs.Stopping.{asking-stop, later-begun, later-refl, passed-on, stop-later, stop-left}
use Rattle.overlaps.specs.Stopping.{IsOverlapStop}
use Rattle.overlaps.proofs.Staying.{probe-stays, stays-refl}
use Rattle.candidate_assembly.proofs.Calls.Causes.{so-err}
use Rattle.candidate_eval.proofs.Interface.Accounts.{memory-somehow}
use Rattle.overlaps.proofs.overlap.overlap_aside.Goals as goal

pub returns-then-not-have_common_trait-clause-stays : goal.returns-then-not-have_common_trait-clause-stays
returns-then-not-have_common_trait-clause-stays c = stays-refl c.args.rounds.now

pub returns-in_err-probe-clause-stays : goal.returns-in_err-probe-clause-stays
returns-in_err-probe-clause-stays c = subst (StaysBesideSteps c.args.rounds.now) (sym c.in_err-probe.ensures.unchanged) (stays-refl c.args.rounds.now)

pub returns-clause-is : goal.returns-clause-is
returns-clause-is c =
    let old = c.args.rounds.now in
    let began = c.begin_probe.new.self in
    let ran = c.overlap_here-answer.new.rounds in
    IfOk-weaker c.overlap_here-answer.result _ _
    (found-probed old began ran c.end_probe.new.self (aside (state old)) c.args.first c.args.second c.begin_probe.ensures.context c.begin_probe.ensures.fixed c.in_ok-probe.ensures.ok.0 c.end_probe.ensures.fixed
    c.end_probe.ensures.context)
    c.overlap_here-answer.ensures.is

pub returns-in_err-probe-clause-cause : goal.returns-in_err-probe-clause-cause
returns-in_err-probe-clause-cause c = passed-on (IsOverlapStop c.args.rounds.now c.begin_probe.new.self) c.from_residual.result c.in_err-probe.field-0.0 c.from_residual.ensures.1 (asking-stop (later-refl c.args.rounds.now) (memory-somehow c.in_err-probe.ensures.cause))

pub returns-clause-cause : goal.returns-clause-cause
returns-clause-cause c =
    so-err c.overlap_here-answer.result (λ s k. stop-left c.end_probe.ensures.context c.end_probe.ensures.fixed (stop-later (later-begun c.begin_probe.ensures.grows c.begin_probe.ensures.fixed) k)) c.overlap_here-answer.ensures.cause

pub returns-clause-asked : goal.returns-clause-asked
returns-clause-asked c =
    let old = c.args.rounds.now in
    let began = c.begin_probe.new.self in
    let ran = c.overlap_here-answer.new.rounds in
    IfOk-weaker c.overlap_here-answer.result _ _
    (may-weaker (asked-probed old began ran c.end_probe.new.self (aside (state old)) c.args.effort c.args.first c.args.second c.begin_probe.ensures.context
    (later-begun c.begin_probe.ensures.grows c.begin_probe.ensures.fixed) c.begin_probe.ensures.fixed c.in_ok-probe.ensures.ok.0 c.end_probe.ensures.fixed))
    c.overlap_here-answer.ensures.asked

pub returns-clause-before : goal.returns-clause-before
returns-clause-before c =
    let old = c.args.rounds.now in
    let began = c.begin_probe.new.self in
    IfOk-weaker c.overlap_here-answer.result _ _
    (of-clause-weaker (before-probed old began (aside (state old)) c.args.effort c.args.first c.args.second c.begin_probe.ensures.context (later-begun c.begin_probe.ensures.grows c.begin_probe.ensures.fixed)
    c.begin_probe.ensures.fixed c.in_ok-probe.ensures.ok.0))
    c.overlap_here-answer.ensures.before

pub returns-clause-uncertain : goal.returns-clause-uncertain
returns-clause-uncertain c =
    let old = c.args.rounds.now in
    let began = c.begin_probe.new.self in
    IfOk-weaker c.overlap_here-answer.result _ _
    (uncertain-weaker (uncertain-probed old began c.overlap_here-answer.new.rounds c.end_probe.new.self (aside (state old)) c.args.first c.args.second c.begin_probe.ensures.context c.begin_probe.ensures.fixed
    c.in_ok-probe.ensures.ok.0 c.end_probe.ensures.fixed))
    c.overlap_here-answer.ensures.uncertain

pub returns-clause-stays : goal.returns-clause-stays
returns-clause-stays c =
    let began = c.in_ok-probe.ensures in
    let end = c.end_probe.ensures in
    probe-stays c.args.rounds.now c.begin_probe.new.self c.overlap_here-answer.new.rounds c.end_probe.new.self began.fixed began.grows began.faults began.ok.1 c.overlap_here-answer.ensures.stays end.fixed end.grows end.faults end.closed
    end.left

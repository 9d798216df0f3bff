use Rattle.std.proofs.Common.{sym, subst}
use Rattle.std.proofs.lemmas.Result.{IfOk-weaker}
use Rattle.candidate_eval.proofs.Interface.Accounts.{memory-somehow}
use Rattle.candidate_assembly.proofs.Calls.Causes.{so-err}
use Rattle.overlaps.specs.Refused.{StaysBesideSteps}
use Rattle.overlaps.proofs.Staying.{probe-stays, stays-refl}
use Rattle.overlaps.proofs.Stopping.{asking-stop, later-begun, later-refl, passed-on, stop-later, stop-left}
use Rattle.overlaps.proofs.JointPairs.{together-probed}
use Rattle.overlaps.specs.Stopping.{IsOverlapStop}
use Rattle.overlaps.proofs.together.apart_aside.Goals as goal

pub returns-in_err-probe-clause-stays : goal.returns-in_err-probe-clause-stays
returns-in_err-probe-clause-stays c = subst (StaysBesideSteps c.args.rounds.now) (sym c.in_err-probe.ensures.unchanged) (stays-refl c.args.rounds.now)

pub returns-in_err-probe-clause-cause : goal.returns-in_err-probe-clause-cause
returns-in_err-probe-clause-cause c = passed-on (IsOverlapStop c.args.rounds.now c.begin_probe.new.self) c.from_residual.result c.in_err-probe.field-0.0 c.from_residual.ensures.1 (asking-stop (later-refl c.args.rounds.now) (memory-somehow c.in_err-probe.ensures.cause))

pub returns-clause-stays : goal.returns-clause-stays
returns-clause-stays c =
    let began = c.in_ok-probe.ensures in
    let end = c.end_probe.ensures in
    probe-stays c.args.rounds.now c.begin_probe.new.self c.apart_here-answer.new.rounds c.end_probe.new.self began.fixed began.grows began.faults began.ok.1 c.apart_here-answer.ensures.stays end.fixed end.grows end.faults end.closed
    end.left

pub returns-clause-apart : goal.returns-clause-apart
returns-clause-apart c =
    IfOk-weaker c.apart_here-answer.result _ _
    (λ b h e. together-probed c.args.rounds.now c.begin_probe.new.self c.args.first c.args.second c.begin_probe.ensures.context c.begin_probe.ensures.fixed c.in_ok-probe.ensures.ok.0 (h e)) c.apart_here-answer.ensures.apart

pub returns-clause-cause : goal.returns-clause-cause
returns-clause-cause c =
    so-err c.apart_here-answer.result (λ s k. stop-left c.end_probe.ensures.context c.end_probe.ensures.fixed (stop-later (later-begun c.begin_probe.ensures.grows c.begin_probe.ensures.fixed) k)) c.apart_here-answer.ensures.cause

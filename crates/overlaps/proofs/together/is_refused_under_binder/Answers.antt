use Rattle.std.proofs.Common.{◌≡◌, true, IfOk, sym, subst}
use Rattle.std.proofs.lemmas.Result.{IfOk-weaker}
use Rattle.ir_trees.specs.Declarations.Context.{Context}
use Rattle.ir_trees.specs.Syntax.Words.{clause_tree}
use Rattle.candidate_eval.proofs.Interface.Accounts.{memory-somehow}
use Rattle.candidate_assembly.proofs.Calls.Causes.{so-err}
use Rattle.overlaps.specs.Refused.{StaysBesideSteps}
use Rattle.overlaps.specs.Together.{RefusesEntered}
use Rattle.overlaps.proofs.Staying.{probe-stays, stays-refl}
use Rattle.overlaps.proofs.Stopping.{asking-stop, later-begun, later-refl, passed-on, stop-later, stop-left}
use Rattle.overlaps.proofs.Jointly.{entered-probed}
use Rattle.overlaps.specs.Stopping.{IsOverlapStop}
use Rattle.overlaps.proofs.together.is_refused_under_binder.Goals as goal

pub returns-in_err-probe-clause-stays : goal.returns-in_err-probe-clause-stays
returns-in_err-probe-clause-stays c = subst (StaysBesideSteps c.args.rounds.now) (sym c.in_err-probe.ensures.unchanged) (stays-refl c.args.rounds.now)

pub returns-in_err-probe-clause-cause : goal.returns-in_err-probe-clause-cause
returns-in_err-probe-clause-cause c = passed-on (IsOverlapStop c.args.rounds.now c.begin_probe.new.self) c.from_residual.result c.in_err-probe.field-0.0 c.from_residual.ensures.1 (asking-stop (later-refl c.args.rounds.now) (memory-somehow c.in_err-probe.ensures.cause))

pub returns-clause-stays : goal.returns-clause-stays
returns-clause-stays c =
    let began = c.in_ok-probe.ensures in
    let end = c.end_probe.ensures in
    probe-stays c.args.rounds.now c.begin_probe.new.self c.is_refused_once_entered-answer.new.rounds c.end_probe.new.self began.fixed began.grows began.faults began.ok.1
    c.is_refused_once_entered-answer.ensures.stays end.fixed end.grows end.faults end.closed end.left

pub returns-clause-refused : goal.returns-clause-refused
returns-clause-refused c =
    let old = c.args.rounds.now in
    let began = c.begin_probe.new.self in
    let ran = c.is_refused_once_entered-answer.new.rounds in
    let t = clause_tree old.context.trees c.args.clause in
    let refused : IfOk c.is_refused_once_entered-answer.result (λ b. b ≡ true → RefusesEntered began ran t)
    = subst (λ (x : Context). IfOk c.is_refused_once_entered-answer.result (λ b. b ≡ true → RefusesEntered began ran (clause_tree x.trees c.args.clause))) c.begin_probe.ensures.context
    c.is_refused_once_entered-answer.ensures.refused in
    IfOk-weaker c.is_refused_once_entered-answer.result _ _
    (λ b h e. entered-probed old began ran c.end_probe.new.self t c.begin_probe.ensures.context c.in_ok-probe.ensures.ok.0 c.end_probe.ensures.fixed (h e)) refused

pub returns-clause-cause : goal.returns-clause-cause
returns-clause-cause c =
    so-err c.is_refused_once_entered-answer.result (λ s k. stop-left c.end_probe.ensures.context c.end_probe.ensures.fixed (stop-later (later-begun c.begin_probe.ensures.grows c.begin_probe.ensures.fixed) k)) c.is_refused_once_entered-answer.ensures.cause

use Rattle.std.proofs.Common.{sym, subst, ap}
use Rattle.ir_trees.specs.Declarations.Context.{Context}
use Rattle.ir_trees.specs.Declarations.References.{reference_of}
use Rattle.ir_trees.specs.Syntax.Words.{env_forest}
use Rattle.candidate_eval.specs.Interface.Shown.{knows_here, view}
use Rattle.candidate_eval.specs.Judges.States.{State}
use Rattle.candidate_eval.proofs.Interface.Accounts.{memory-somehow}
use Rattle.candidate_rounds.specs.Evaluators.Interface.{Fixed, judge_of}
use Rattle.candidate_rounds.specs.Evaluators.Known.{state}
use Rattle.candidate_rounds.specs.Table.Normalizing.{rounds_shown}
use Rattle.overlaps.specs.Reasons.{conflict_at}
use Rattle.overlaps.specs.Refused.{StaysBesideSteps}
use Rattle.overlaps.specs.Stopping.{IsOverlapStop}
use Rattle.overlaps.proofs.OpenClauses.{conflict-asked, conflict-stop, knowing-own}
use Rattle.overlaps.proofs.Staying.{known-kept, probe-stays, stays-refl}
use Rattle.overlaps.proofs.Stopping.{asking-stop, later-begun, later-refl, passed-on, stop-left}
use Rattle.overlaps.proofs.reasons.conflict_of.Goals as goal

pub returns-in_err-probe-clause-stays : goal.returns-in_err-probe-clause-stays
returns-in_err-probe-clause-stays c = subst (StaysBesideSteps c.args.rounds.now) (sym c.in_err-probe.ensures.unchanged) (stays-refl c.args.rounds.now)

pub returns-in_err-probe-clause-cause : goal.returns-in_err-probe-clause-cause
returns-in_err-probe-clause-cause c = passed-on (IsOverlapStop c.args.rounds.now c.begin_probe.new.self) c.from_residual.result c.in_err-probe.field-0.0 c.from_residual.ensures.1 (asking-stop (later-refl c.args.rounds.now) (memory-somehow c.in_err-probe.ensures.cause))

pub returns-clause-stays : goal.returns-clause-stays
returns-clause-stays c =
    let began = c.in_ok-probe.ensures in
    let end = c.end_probe.ensures in
    probe-stays c.args.rounds.now c.begin_probe.new.self c.is_knowable-known.new.ecx c.end_probe.new.self began.fixed began.grows began.faults began.ok.1 (known-kept c.is_knowable-known.ensures.kept)
    end.fixed end.grows end.faults end.closed end.left

pub returns-clause-is : goal.returns-clause-is
returns-clause-is c =
    let began = c.begin_probe.new.self in
    let env = c.args.env in
    let r = c.args.trait_ref in
    let f = sym c.begin_probe.ensures.fixed in
    let s = sym c.in_ok-probe.ensures.ok.0 in
    let x = sym c.begin_probe.ensures.context in
    conflict-asked c.conflict_in.result c.is_knowable-known.result (state c.is_knowable-known.new.ecx) (knows_here (view rounds_shown began) env r) _ c.conflict_in.ensures.is c.conflict_in.ensures.told
    c.is_knowable-known.ensures.answer
    (ap (λ (q : Fixed × State × Context). conflict_at (judge_of q.0) q.1 (env_forest q.2.trees env) (reference_of q.2.trees r)) (λ i. (f i, s i, x i)))

pub returns-clause-cause : goal.returns-clause-cause
returns-clause-cause c =
    conflict-stop c.conflict_in.result c.is_knowable-known.result (IsOverlapStop c.args.rounds.now c.end_probe.new.self) c.conflict_in.ensures.stopped c.conflict_in.ensures.own
    (λ s e own. stop-left c.end_probe.ensures.context c.end_probe.ensures.fixed
    (asking-stop (later-begun c.begin_probe.ensures.grows c.begin_probe.ensures.fixed) (knowing-own own (c.is_knowable-known.ensures.cause s e))))

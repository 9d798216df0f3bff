use Rattle.std.proofs.Common.{None, Some, subst, sym, ◌∙◌}
use Rattle.std.proofs.lemmas.Result.{IfOk-weaker}
use Rattle.candidate_eval.specs.Interface.Evaluators.{Keeps}
use Rattle.candidate_eval.proofs.Dynamic.Objects.{env-kept}
use Rattle.candidate_eval.proofs.Interface.Accounts.{memory-somehow}
use Rattle.candidate_eval.proofs.Interface.Probing.{keeps-probe}
use Rattle.candidate_assembly.proofs.Calls.Causes.{so-err}
use Rattle.ir_folds.proofs.Hierarchy.Implying.{arg-kept}
use Rattle.candidate_rounds.specs.Evaluators.Interface.{fixed}
use Rattle.candidate_rounds.specs.Evaluators.Known.{probes, state}
use Rattle.overlaps.proofs.Negated.{equation-before, some-not-none}
use Rattle.overlaps.proofs.Staying.{context_of, keeps-refl}
use Rattle.overlaps.proofs.Stopping.{asking-stop, later-begun, later-refl, passed-on, stop-left}
use Rattle.overlaps.specs.Stopping.{IsOverlapStop}
use Rattle.overlaps.proofs.negation.can_be_equal.Goals as goal

pub returns-in_err-probe-clause-kept : goal.returns-in_err-probe-clause-kept
returns-in_err-probe-clause-kept c = subst (Keeps fixed probes context_of c.args.rounds.now) (sym c.in_err-probe.ensures.unchanged) (keeps-refl c.args.rounds.now)

pub returns-in_err-probe-clause-cause : goal.returns-in_err-probe-clause-cause
returns-in_err-probe-clause-cause c = passed-on (IsOverlapStop c.args.rounds.now c.begin_probe.new.self) c.from_residual.result c.in_err-probe.field-0.0 c.from_residual.ensures.1 (asking-stop (later-refl c.args.rounds.now) (memory-somehow c.in_err-probe.ensures.cause))

pub make_one_equal-answer-requires-clause-env : goal.make_one_equal-answer-requires-clause-env
make_one_equal-answer-requires-clause-env c = (env-kept _ _ c.args.env c.begin_probe.ensures.grows c.requires.env).0

pub make_one_equal-answer-requires-clause-one : goal.make_one_equal-answer-requires-clause-one
make_one_equal-answer-requires-clause-one c = (arg-kept _ _ c.args.one c.begin_probe.ensures.grows c.requires.one).0

pub make_one_equal-answer-requires-clause-other : goal.make_one_equal-answer-requires-clause-other
make_one_equal-answer-requires-clause-other c = (arg-kept _ _ c.args.other c.begin_probe.ensures.grows c.requires.other).0

pub returns-clause-kept : goal.returns-clause-kept
returns-clause-kept c =
    let began = c.in_ok-probe.ensures in
    let end = c.end_probe.ensures in
    keeps-probe fixed probes context_of c.args.rounds.now c.begin_probe.new.self c.make_one_equal-answer.new.ecx c.end_probe.new.self (state c.args.rounds.now) began.fixed began.grows began.faults began.ok.1
    c.make_one_equal-answer.ensures.kept end.fixed end.grows end.faults end.left

pub returns-clause-same : goal.returns-clause-same
returns-clause-same c =
    let old = c.args.rounds.now in
    c.end_probe.ensures.closed (state old) (probes old) (c.make_one_equal-answer.ensures.kept.probes_same ∙ c.in_ok-probe.ensures.ok.1)

pub returns-clause-equal : goal.returns-clause-equal
returns-clause-equal c =
    let old = c.args.rounds.now in
    let began = c.begin_probe.new.self in
    let ran = c.make_one_equal-answer.new.ecx in
    IfOk-weaker c.make_one_equal-answer.result _ _
    (λ b h e n. some-not-none _ (state ran)
    (equation-before old began c.args.env c.args.one c.args.other (Some (state ran)) c.begin_probe.ensures.grows c.begin_probe.ensures.fixed c.in_ok-probe.ensures.ok.0 c.requires.env c.requires.one c.requires.other (h e)) n)
    c.make_one_equal-answer.ensures.equal

pub returns-clause-cause : goal.returns-clause-cause
returns-clause-cause c =
    so-err c.make_one_equal-answer.result
    (λ s k. stop-left c.end_probe.ensures.context c.end_probe.ensures.fixed (asking-stop (later-begun c.begin_probe.ensures.grows c.begin_probe.ensures.fixed) k)) c.make_one_equal-answer.ensures.cause

use Rattle.std.proofs.Common.{None, Some, inl, ◌∙◌}
use Rattle.ir_folds.proofs.Hierarchy.Implying.{arg-kept}
use Rattle.candidate_eval.proofs.Dynamic.Objects.{env-kept}
use Rattle.candidate_eval.proofs.Interface.Probing.{then}
use Rattle.candidate_rounds.specs.Evaluators.Interface.{fixed, judge_of}
use Rattle.candidate_rounds.specs.Evaluators.Known.{state}
use Rattle.overlaps.proofs.Negated.{equation-before, led-on}
use Rattle.overlaps.proofs.Stopping.{asking-stop, later-kept, passed-on}
use Rattle.overlaps.specs.Stopping.{IsOverlapStop}
use Rattle.overlaps.proofs.negation.plug_one.Goals as goal

pub returns-then-not-branch-clause-plugs : goal.returns-then-not-branch-clause-plugs
returns-then-not-branch-clause-plugs c = inl c.can_be_equal.ensures.same

pub make_one_equal-requires-clause-env : goal.make_one_equal-requires-clause-env
make_one_equal-requires-clause-env c = (env-kept _ _ c.args.env c.can_be_equal.ensures.kept.grows c.requires.env).0

pub make_one_equal-requires-clause-one : goal.make_one_equal-requires-clause-one
make_one_equal-requires-clause-one c = (arg-kept _ _ c.args.local c.can_be_equal.ensures.kept.grows c.requires.local).0

pub make_one_equal-requires-clause-other : goal.make_one_equal-requires-clause-other
make_one_equal-requires-clause-other c = (arg-kept _ _ c.args.placeholder c.can_be_equal.ensures.kept.grows c.requires.placeholder).0

pub returns-in_err-make_one_equal-clause-kept : goal.returns-in_err-make_one_equal-clause-kept
returns-in_err-make_one_equal-clause-kept c = then c.can_be_equal.ensures.kept c.make_one_equal.ensures.kept

pub returns-in_err-make_one_equal-clause-cause : goal.returns-in_err-make_one_equal-clause-cause
returns-in_err-make_one_equal-clause-cause c = passed-on (IsOverlapStop c.args.rounds.now c.make_one_equal.new.ecx) c.from_residual-in_err-make_one_equal.result c.in_err-make_one_equal.field-0.0 c.from_residual-in_err-make_one_equal.ensures.1 (asking-stop (later-kept c.can_be_equal.ensures.kept) c.in_err-make_one_equal.ensures.cause)

pub returns-clause-kept : goal.returns-clause-kept
returns-clause-kept c = then c.can_be_equal.ensures.kept c.make_one_equal.ensures.kept

pub returns-clause-plugs : goal.returns-clause-plugs
returns-clause-plugs c =
    let old = c.args.rounds.now in
    let mid = c.can_be_equal.new.rounds in
    let new = c.make_one_equal.new.ecx in
    let k = c.can_be_equal.ensures.kept in
    let same = c.can_be_equal.ensures.same in
    let q = c.requires in
    led-on (judge_of (fixed old)) (state old) (state new) old.context.trees c.args.env c.args.local c.args.placeholder c.in_ok-make_one_equal.field-0 q.empty
    (λ e. equation-before old mid c.args.env c.args.local c.args.placeholder (Some (state new)) k.grows k.fixed_same same q.env q.local q.placeholder (c.in_ok-make_one_equal.ensures.equal e))
    (λ e. equation-before old mid c.args.env c.args.local c.args.placeholder None k.grows k.fixed_same same q.env q.local q.placeholder (c.in_ok-make_one_equal.ensures.apart e))
    (c.in_ok-can_be_equal.ensures.equal c.if-not-branch.false)

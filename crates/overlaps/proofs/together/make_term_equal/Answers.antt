use Rattle.std.proofs.Common.{◌≡◌, None, Some, subst}
use Rattle.ir_trees.specs.declared.ir.kinds.TyKind.TheVariants as K
use Rattle.ir_trees.specs.Syntax.Words.{kind_tree, ty_tree}
use Rattle.ir_trees.proofs.Growth.Kept.{ty-kept}
use Rattle.candidate_eval.proofs.Dynamic.Objects.{env-kept}
use Rattle.candidate_eval.proofs.Interface.Accounts.{memory-somehow}
use Rattle.candidate_eval.specs.Judges.States.{Env}
use Rattle.candidate_assembly.proofs.Calls.Causes.{so-err}
use Rattle.candidate_rounds.specs.Evaluators.Known.{state}
use Rattle.overlaps.proofs.Jointly.{equal-left, kept-tried, obligations-there}
use Rattle.overlaps.proofs.JointNormals.{equal-as}
use Rattle.overlaps.proofs.Stopping.{asking-stop, later-kept, later-known, later-refl, later-then, passed-on}
use Rattle.overlaps.specs.Stopping.{IsOverlapStop}
use Rattle.overlaps.specs.Together.{IsProjectedAs, no_type_as_said, other_type, pending_at}
use Rattle.overlaps.specs.declared.together.ProjectionType.{ProjectionType}
use Rattle.overlaps.proofs.Staying.{known-kept, known-then}
use Rattle.overlaps.proofs.together.make_term_equal.Goals as goal

pub make_one_equal-requires-clause-env : goal.make_one_equal-requires-clause-env
make_one_equal-requires-clause-env c = (env-kept _ _ c.args.goal.1.param_env c.projected.ensures.stays.grows c.requires.fit.0).0

pub make_one_equal-requires-clause-other : goal.make_one_equal-requires-clause-other
make_one_equal-requires-clause-other c = (ty-kept _ _ c.args.said.1 c.projected.ensures.stays.grows c.requires.term).0

pub returns-in_err-make_one_equal-in-Type-clause-cause : goal.returns-in_err-make_one_equal-in-Type-clause-cause
returns-in_err-make_one_equal-in-Type-clause-cause c =
    passed-on (IsOverlapStop c.args.rounds.now c.make_one_equal.new.ecx) c.from_residual-in_err-make_one_equal-in-Type.result c.in_err-make_one_equal-in-Type.field-0.0
    c.from_residual-in_err-make_one_equal-in-Type.ensures.1 (asking-stop (later-known c.projected.ensures.stays) c.in_err-make_one_equal-in-Type.ensures.cause)

pub returns-then-not-branch-clause-tried : goal.returns-then-not-branch-clause-tried
returns-then-not-branch-clause-tried c =
    let old = c.args.rounds.now in
    let at = c.projected.new.rounds in
    let t = kind_tree old.context.trees (K.Alias c.args.said.0) in
    let u = ty_tree old.context.trees c.args.said.1 in
    let p = subst (λ (q : Env × ProjectionType). IsProjectedAs old at q.0 t q.1) (λ i. (c.requires.empty i, c.in-Type.is i)) c.in_ok-projected.ensures.is in
    let refused = equal-as old at c.args.goal.1.param_env c.in-Type.ty c.args.said.1 None c.projected.ensures.stays.grows c.requires.fit.0 c.requires.empty p.1 c.requires.term
    (c.in_ok-make_one_equal-in-Type.ensures.apart c.if-not-branch.true) in
    λ ps there. other_type (pending_at old c.args.goal) t u (state at) at there c.requires.said p.0 (later-known c.projected.ensures.stays) refused

pub leave_pending-requires : goal.leave_pending-requires
leave_pending-requires c =
    record {
      fit = obligations-there c.args.rounds.now c.make_one_equal.new.ecx c.args.left.now.items (later-then (later-known c.projected.ensures.stays) (later-kept c.make_one_equal.ensures.kept)) c.requires.left;
    }

pub returns-in_err-leave_pending-in-Type-clause-cause : goal.returns-in_err-leave_pending-in-Type-clause-cause
returns-in_err-leave_pending-in-Type-clause-cause c =
    passed-on (IsOverlapStop c.args.rounds.now c.leave_pending.new.rounds) c.from_residual-in_err-leave_pending-in-Type.result c.in_err-leave_pending-in-Type.field-0.0 c.from_residual-in_err-leave_pending-in-Type.ensures.1
    (asking-stop (later-refl c.args.rounds.now) (memory-somehow c.in_err-leave_pending-in-Type.ensures.cause))

pub returns-in-Open-clause-tried : goal.returns-in-Open-clause-tried
returns-in-Open-clause-tried c =
    let old = c.args.rounds.now in
    let mid = c.projected.new.rounds in
    let same : state mid ≡ state old = subst (λ (q : Env × ProjectionType). IsProjectedAs old mid q.0 (kind_tree old.context.trees (K.Alias c.args.said.0)) q.1) (λ i. (c.requires.empty i, c.in-Open.is i)) c.in_ok-projected.ensures.is in
    kept-tried old mid c.args.goal c.args.left.now.items c.keep.new.left.items c.keep.result (later-known c.projected.ensures.stays) same c.requires.pending c.requires.fit c.requires.left c.keep.ensures.open c.keep.ensures.pushed

pub returns-in-Open-clause-cause : goal.returns-in-Open-clause-cause
returns-in-Open-clause-cause c = so-err c.keep.result (λ s e. asking-stop (later-refl c.args.rounds.now) (memory-somehow e)) c.keep.ensures.cause

pub returns-in-Impossible-clause-tried : goal.returns-in-Impossible-clause-tried
returns-in-Impossible-clause-tried c =
    let old = c.args.rounds.now in
    let t = kind_tree old.context.trees (K.Alias c.args.said.0) in
    let normal = subst (λ (q : Env × ProjectionType). IsProjectedAs old c.projected.new.rounds q.0 t q.1) (λ i. (c.requires.empty i, c.in-Impossible.is i)) c.in_ok-projected.ensures.is in
    λ ps there. no_type_as_said (pending_at old c.args.goal) t (ty_tree old.context.trees c.args.said.1) there c.requires.said normal

pub returns-in_ok-leave_pending-in-Type-clause-tried : goal.returns-in_ok-leave_pending-in-Type-clause-tried
returns-in_ok-leave_pending-in-Type-clause-tried c =
    let old = c.args.rounds.now in
    let at = c.projected.new.rounds in
    let done = c.make_one_equal.new.ecx in
    let new = c.leave_pending.new.rounds in
    let t = kind_tree old.context.trees (K.Alias c.args.said.0) in
    let u = ty_tree old.context.trees c.args.said.1 in
    let p = subst (λ (q : Env × ProjectionType). IsProjectedAs old at q.0 t q.1) (λ i. (c.requires.empty i, c.in-Type.is i)) c.in_ok-projected.ensures.is in
    let l = later-known c.projected.ensures.stays in
    let m = later-then (later-then l (later-kept c.make_one_equal.ensures.kept)) (later-kept c.leave_pending.ensures.kept) in
    let equal = equal-as old at c.args.goal.1.param_env c.in-Type.ty c.args.said.1 (Some (state done)) c.projected.ensures.stays.grows c.requires.fit.0 c.requires.empty p.1 c.requires.term
    (c.in_ok-make_one_equal-in-Type.ensures.equal c.if-not-branch.false) in
    let left = c.in_ok-leave_pending-in-Type.ensures in
    equal-left old at done new c.args.goal c.args.left.now.items c.leave_pending.new.left.items t u l m c.requires.said p.0 equal left.aside c.requires.left left.fit left.left

pub returns-in_err-make_one_equal-in-Type-clause-stays : goal.returns-in_err-make_one_equal-in-Type-clause-stays
returns-in_err-make_one_equal-in-Type-clause-stays c = known-then c.projected.ensures.stays (known-kept c.make_one_equal.ensures.kept)

pub returns-then-not-branch-clause-stays : goal.returns-then-not-branch-clause-stays
returns-then-not-branch-clause-stays c = known-then c.projected.ensures.stays (known-kept c.make_one_equal.ensures.kept)

pub returns-in_err-leave_pending-in-Type-clause-stays : goal.returns-in_err-leave_pending-in-Type-clause-stays
returns-in_err-leave_pending-in-Type-clause-stays c = known-then (known-then c.projected.ensures.stays (known-kept c.make_one_equal.ensures.kept)) (known-kept c.leave_pending.ensures.kept)

pub returns-in_ok-leave_pending-in-Type-clause-stays : goal.returns-in_ok-leave_pending-in-Type-clause-stays
returns-in_ok-leave_pending-in-Type-clause-stays c = known-then (known-then c.projected.ensures.stays (known-kept c.make_one_equal.ensures.kept)) (known-kept c.leave_pending.ensures.kept)

use Rattle.std.proofs.Common.{rules, ◌≡◌, ◌++◌, ◌∷◌, [], None, subst}
use Rattle.std.proofs.lemmas.Result.{err_from_is_err_and}
use Rattle.ir_trees.specs.declared.ir.kinds.TyKind.TheVariants as K
use Rattle.ir_trees.specs.Syntax.Trees.{Tree}
use Rattle.ir_trees.specs.Syntax.Words.{kind_tree, ty_tree}
use Rattle.ir_trees.proofs.Growth.Kept.{ty-kept}
use Rattle.ir_folds.proofs.Instantiation.Joining.{clause-kept}
use Rattle.candidate_eval.proofs.Interface.Accounts.{memory-somehow}
use Rattle.candidate_eval.specs.Judges.States.{Env}
use Rattle.candidate_eval.specs.Interface.Accounts.StopsSomehow.{making}
use Rattle.candidate_assembly.proofs.Calls.Causes.{so-err}
use Rattle.candidate_rounds.specs.Evaluators.Known.{state}
use Rattle.overlaps.proofs.Jointly.{kept-tried}
use Rattle.overlaps.proofs.JointNormals.{alias-here, pushed-fit, put-left}
use Rattle.overlaps.proofs.Stopping.{asking-stop, later-kept, later-known, later-refl, passed-on}
use Rattle.overlaps.specs.Stopping.{IsOverlapStop}
use Rattle.overlaps.specs.Together.{IsNormalAt, IsProjectedAs, no_type, pending_at}
use Rattle.overlaps.specs.declared.together.ProjectionType.{ProjectionType}
use Rattle.overlaps.proofs.Staying.{known-kept, known-made, known-then}
use Rattle.overlaps.proofs.together.put_type.Goals as goal

pub with_type_for-requires-clause-old : goal.with_type_for-requires-clause-old
with_type_for-requires-clause-old c = (ty-kept _ _ c.args.projection.0 c.projected.ensures.stays.grows c.requires.projection.sort).0

pub with_type_for-requires-clause-alias : goal.with_type_for-requires-clause-alias
with_type_for-requires-clause-alias c = alias-here c.args.rounds.now c.projected.new.rounds c.args.goal c.args.projection.0 c.args.projection.1 c.projected.ensures.stays c.requires.fit c.requires.projection

pub with_type_for-requires-clause-clause : goal.with_type_for-requires-clause-clause
with_type_for-requires-clause-clause c = (clause-kept _ _ c.args.goal.1.predicate c.projected.ensures.stays.grows c.requires.fit.1).0

pub returns-in_err-predicate-in-Type-clause-cause : goal.returns-in_err-predicate-in-Type-clause-cause
returns-in_err-predicate-in-Type-clause-cause c =
    passed-on (IsOverlapStop c.args.rounds.now c.with_type_for.new.make) c.from_residual-in_err-predicate-in-Type.result c.in_err-predicate-in-Type.field-0.0 c.from_residual-in_err-predicate-in-Type.ensures.1
    (asking-stop (later-known c.projected.ensures.stays) (making c.in_err-predicate-in-Type.ensures.cause))

pub returns-in_err-push-in-Type-clause-cause : goal.returns-in_err-push-in-Type-clause-cause
returns-in_err-push-in-Type-clause-cause c =
    let p = err_from_is_err_and c.from_residual-in_err-push-in-Type.result c.from_residual-in_err-push-in-Type.ensures.1 in
    rw p.1 (asking-stop (later-refl c.args.rounds.now) (memory-somehow p.2))

pub leave_pending-requires : goal.leave_pending-requires
leave_pending-requires c =
    let p = subst (λ (q : Env × ProjectionType). IsProjectedAs c.args.rounds.now c.projected.new.rounds q.0 (kind_tree c.args.rounds.now.context.trees (K.Alias c.args.projection.1)) q.1) (λ i. (c.requires.empty i, c.in-Type.is i)) c.in_ok-projected.ensures.is in
    let items : c.push.new.self.items ≡ c.args.left.now.items ++ (c.args.goal.0, record { param_env = c.args.goal.1.param_env; predicate = c.in_ok-predicate-in-Type.predicate }) ∷ [] = search rules in
    record {
      fit =
          pushed-fit c.args.rounds.now c.projected.new.rounds c.args.goal c.args.projection.0 c.args.projection.1 c.projected.ensures.stays c.requires.fit c.requires.projection c.with_type_for.new.make c.in-Type.ty
          c.in_ok-predicate-in-Type.predicate c.args.left.now.items c.push.new.self.items c.with_type_for.ensures.grows c.with_type_for.ensures.rest p c.in_ok-predicate-in-Type.ensures.sort
          c.in_ok-predicate-in-Type.ensures.tree c.requires.left items;
    }

pub returns-in_err-leave_pending-in-Type-clause-cause : goal.returns-in_err-leave_pending-in-Type-clause-cause
returns-in_err-leave_pending-in-Type-clause-cause c =
    passed-on (IsOverlapStop c.args.rounds.now c.leave_pending.new.rounds) c.from_residual-in_err-leave_pending-in-Type.result c.in_err-leave_pending-in-Type.field-0.0 c.from_residual-in_err-leave_pending-in-Type.ensures.1
    (asking-stop (later-refl c.args.rounds.now) (memory-somehow c.in_err-leave_pending-in-Type.ensures.cause))

pub returns-in-Open-clause-tried : goal.returns-in-Open-clause-tried
returns-in-Open-clause-tried c =
    let old = c.args.rounds.now in
    let mid = c.projected.new.rounds in
    let same : state mid ≡ state old = subst (λ (q : Env × ProjectionType). IsProjectedAs old mid q.0 (kind_tree old.context.trees (K.Alias c.args.projection.1)) q.1) (λ i. (c.requires.empty i, c.in-Open.is i)) c.in_ok-projected.ensures.is in
    kept-tried old mid c.args.goal c.args.left.now.items c.keep.new.left.items c.keep.result (later-known c.projected.ensures.stays) same c.requires.pending c.requires.fit c.requires.left c.keep.ensures.open c.keep.ensures.pushed

pub returns-in-Open-clause-cause : goal.returns-in-Open-clause-cause
returns-in-Open-clause-cause c = so-err c.keep.result (λ s e. asking-stop (later-refl c.args.rounds.now) (memory-somehow e)) c.keep.ensures.cause

pub returns-in-Impossible-clause-tried : goal.returns-in-Impossible-clause-tried
returns-in-Impossible-clause-tried c =
    let old = c.args.rounds.now in
    let normal : IsNormalAt old (state old) (kind_tree old.context.trees (K.Alias c.args.projection.1)) None
    = subst (λ (q : Env × ProjectionType). IsProjectedAs old c.projected.new.rounds q.0 (kind_tree old.context.trees (K.Alias c.args.projection.1)) q.1) (λ i. (c.requires.empty i, c.in-Impossible.is i)) c.in_ok-projected.ensures.is in
    λ ps there.
    no_type (pending_at old c.args.goal) (ty_tree old.context.trees c.args.projection.0) there c.requires.stands (subst (λ (t : Tree). IsNormalAt old (state old) t None) c.requires.projection.is normal)

pub returns-in_ok-leave_pending-in-Type-clause-tried : goal.returns-in_ok-leave_pending-in-Type-clause-tried
returns-in_ok-leave_pending-in-Type-clause-tried c =
    let p = subst (λ (q : Env × ProjectionType). IsProjectedAs c.args.rounds.now c.projected.new.rounds q.0 (kind_tree c.args.rounds.now.context.trees (K.Alias c.args.projection.1)) q.1) (λ i. (c.requires.empty i, c.in-Type.is i)) c.in_ok-projected.ensures.is in
    let items : c.push.new.self.items ≡ c.args.left.now.items ++ (c.args.goal.0, record { param_env = c.args.goal.1.param_env; predicate = c.in_ok-predicate-in-Type.predicate }) ∷ [] = search rules in
    let left = c.in_ok-leave_pending-in-Type.ensures in
    put-left c.args.rounds.now c.projected.new.rounds c.args.goal c.args.projection.0 c.args.projection.1 c.projected.ensures.stays c.requires.fit c.requires.projection c.with_type_for.new.make c.in-Type.ty
    c.in_ok-predicate-in-Type.predicate c.args.left.now.items c.push.new.self.items c.with_type_for.ensures.grows c.with_type_for.ensures.rest p c.in_ok-predicate-in-Type.ensures.sort c.in_ok-predicate-in-Type.ensures.tree
    c.requires.left items c.leave_pending.new.rounds c.leave_pending.new.left.items (later-kept c.leave_pending.ensures.kept) c.requires.stands left.aside left.fit left.left

pub returns-in_err-predicate-in-Type-clause-stays : goal.returns-in_err-predicate-in-Type-clause-stays
returns-in_err-predicate-in-Type-clause-stays c = known-then c.projected.ensures.stays (known-made c.with_type_for.ensures.grows c.with_type_for.ensures.rest)

pub returns-in_err-push-in-Type-clause-stays : goal.returns-in_err-push-in-Type-clause-stays
returns-in_err-push-in-Type-clause-stays c = known-then c.projected.ensures.stays (known-made c.with_type_for.ensures.grows c.with_type_for.ensures.rest)

pub returns-in_err-leave_pending-in-Type-clause-stays : goal.returns-in_err-leave_pending-in-Type-clause-stays
returns-in_err-leave_pending-in-Type-clause-stays c = known-then (known-then c.projected.ensures.stays (known-made c.with_type_for.ensures.grows c.with_type_for.ensures.rest)) (known-kept c.leave_pending.ensures.kept)

pub returns-in_ok-leave_pending-in-Type-clause-stays : goal.returns-in_ok-leave_pending-in-Type-clause-stays
returns-in_ok-leave_pending-in-Type-clause-stays c = known-then (known-then c.projected.ensures.stays (known-made c.with_type_for.ensures.grows c.with_type_for.ensures.rest)) (known-kept c.leave_pending.ensures.kept)

use Rattle.std.proofs.Common.{◌≡◌, true, refl, sym, subst, ◌∙◌}
use Rattle.ir_trees.specs.declared.ir.kinds.TyKind.TheVariants as K
use Rattle.ir_trees.specs.Syntax.Trees.{Tree, is_alias}
use Rattle.ir_trees.specs.Syntax.Words.{clause_tree, env_forest, kind_tree}
use Rattle.ir_trees.specs.Unification.Substitutions.{alone}
use Rattle.ir_trees.proofs.Growth.Kept.{grows-trans, ty-kept}
use Rattle.ir_folds.proofs.Instantiation.Joining.{clause-kept}
use Rattle.candidate_eval.specs.Interface.Accounts.{resolve}
use Rattle.candidate_eval.specs.Interface.Accounts.StopsSomehow.{making}
use Rattle.candidate_assembly.proofs.Calls.Causes.{asked-somehow}
use Rattle.candidate_rounds.specs.Evaluators.Known.{state}
use Rattle.overlaps.proofs.Staying.{known-kept, known-made, known-then}
use Rattle.overlaps.proofs.Stopping.{asking-stop, later-known, passed-on, stop-later}
use Rattle.overlaps.proofs.Typed.{projection-typed, rest-state, same-typed}
use Rattle.overlaps.specs.Stopping.{IsOverlapStop}
use Rattle.overlaps.specs.Together.{IsProjectedAs}
use Rattle.overlaps.proofs.specializing.with_type.Goals as goal

pub returns-in-Open-clause-sort : goal.returns-in-Open-clause-sort
returns-in-Open-clause-sort c = (clause-kept _ _ c.args.clause c.projected.ensures.stays.grows c.requires.clause).0

pub returns-in-Open-clause-typed : goal.returns-in-Open-clause-typed
returns-in-Open-clause-typed c =
    let old = c.args.rounds.now in
    let mid = c.projected.new.rounds in
    let e = env_forest old.context.trees c.args.env in
    let same : state mid ≡ state old = subst (IsProjectedAs old mid e (kind_tree old.context.trees (K.Alias c.args.projection.1))) c.in-Open.is c.in_ok-projected.ensures.is in
    same-typed old mid e c.args.clause c.projected.ensures.stays.grows c.requires.clause same

pub returns-in_err-is_quiet-in-Type-clause-stays : goal.returns-in_err-is_quiet-in-Type-clause-stays
returns-in_err-is_quiet-in-Type-clause-stays c = known-then c.projected.ensures.stays c.is_quiet.ensures.stays

pub returns-in_err-is_quiet-in-Type-clause-cause : goal.returns-in_err-is_quiet-in-Type-clause-cause
returns-in_err-is_quiet-in-Type-clause-cause c =
    passed-on (IsOverlapStop c.args.rounds.now c.is_quiet.new.rounds) c.from_residual-in_err-is_quiet-in-Type.result c.in_err-is_quiet-in-Type.field-0.0 c.from_residual-in_err-is_quiet-in-Type.ensures.1
    (stop-later (later-known c.projected.ensures.stays) c.in_err-is_quiet-in-Type.ensures.cause)

pub returns-then-not-branch-clause-stays : goal.returns-then-not-branch-clause-stays
returns-then-not-branch-clause-stays c = known-then c.projected.ensures.stays c.is_quiet.ensures.stays

pub with_type_for-requires-clause-old : goal.with_type_for-requires-clause-old
with_type_for-requires-clause-old c =
    (ty-kept _ _ c.args.projection.0 (grows-trans _ _ _ c.projected.ensures.stays.grows c.is_quiet.ensures.stays.grows) c.requires.projection.sort).0

pub with_type_for-requires-clause-alias : goal.with_type_for-requires-clause-alias
with_type_for-requires-clause-alias c =
    let kept = (ty-kept _ _ c.args.projection.0 (grows-trans _ _ _ c.projected.ensures.stays.grows c.is_quiet.ensures.stays.grows) c.requires.projection.sort).1 in
    subst (λ (t : Tree). is_alias t.head ≡ true) (c.requires.projection.is ∙ sym kept) refl

pub with_type_for-requires-clause-new : goal.with_type_for-requires-clause-new
with_type_for-requires-clause-new c =
    let old = c.args.rounds.now in
    let mid = c.projected.new.rounds in
    let p = subst (IsProjectedAs old mid (env_forest old.context.trees c.args.env) (kind_tree old.context.trees (K.Alias c.args.projection.1))) c.in-Type.is c.in_ok-projected.ensures.is in
    (ty-kept _ _ c.in-Type.ty c.is_quiet.ensures.stays.grows p.1.0).0

pub with_type_for-requires-clause-clause : goal.with_type_for-requires-clause-clause
with_type_for-requires-clause-clause c = (clause-kept _ _ c.args.clause (grows-trans _ _ _ c.projected.ensures.stays.grows c.is_quiet.ensures.stays.grows) c.requires.clause).0

pub returns-in_err-typed-in-Type-clause-stays : goal.returns-in_err-typed-in-Type-clause-stays
returns-in_err-typed-in-Type-clause-stays c =
    known-then (known-then c.projected.ensures.stays c.is_quiet.ensures.stays) (known-made c.with_type_for.ensures.grows c.with_type_for.ensures.rest)

pub returns-in_err-typed-in-Type-clause-cause : goal.returns-in_err-typed-in-Type-clause-cause
returns-in_err-typed-in-Type-clause-cause c =
    passed-on (IsOverlapStop c.args.rounds.now c.with_type_for.new.make) c.from_residual-in_err-typed-in-Type.result c.in_err-typed-in-Type.field-0.0 c.from_residual-in_err-typed-in-Type.ensures.1
    (asking-stop (later-known (known-then c.projected.ensures.stays c.is_quiet.ensures.stays)) (making c.in_err-typed-in-Type.ensures.cause))

pub returns-in_err-resolved-in-Type-clause-stays : goal.returns-in_err-resolved-in-Type-clause-stays
returns-in_err-resolved-in-Type-clause-stays c =
    known-then (known-then (known-then c.projected.ensures.stays c.is_quiet.ensures.stays) (known-made c.with_type_for.ensures.grows c.with_type_for.ensures.rest)) (known-kept c.resolve_clause_if_possible.ensures.kept)

pub returns-in_err-resolved-in-Type-clause-cause : goal.returns-in_err-resolved-in-Type-clause-cause
returns-in_err-resolved-in-Type-clause-cause c =
    let before = known-then (known-then c.projected.ensures.stays c.is_quiet.ensures.stays) (known-made c.with_type_for.ensures.grows c.with_type_for.ensures.rest) in
    passed-on (IsOverlapStop c.args.rounds.now c.resolve_clause_if_possible.new.self) c.from_residual-in_err-resolved-in-Type.result c.in_err-resolved-in-Type.field-0.0 c.from_residual-in_err-resolved-in-Type.ensures.1
    (asking-stop (later-known before)
    (asked-somehow (resolve (alone (clause_tree c.with_type_for.new.make.context.trees c.in_ok-typed-in-Type.typed))) c.resolve_clause_if_possible.ensures.kept c.in_err-resolved-in-Type.ensures.cause))

pub returns-in_ok-resolved-in-Type-clause-stays : goal.returns-in_ok-resolved-in-Type-clause-stays
returns-in_ok-resolved-in-Type-clause-stays c =
    known-then (known-then (known-then c.projected.ensures.stays c.is_quiet.ensures.stays) (known-made c.with_type_for.ensures.grows c.with_type_for.ensures.rest)) (known-kept c.resolve_clause_if_possible.ensures.kept)

pub returns-in_ok-resolved-in-Type-clause-typed : goal.returns-in_ok-resolved-in-Type-clause-typed
returns-in_ok-resolved-in-Type-clause-typed c =
    let old = c.args.rounds.now in
    let at = c.projected.new.rounds in
    let q = c.is_quiet.new.rounds in
    let made = c.with_type_for.new.make in
    let e = env_forest old.context.trees c.args.env in
    let p = subst (IsProjectedAs old at e (kind_tree old.context.trees (K.Alias c.args.projection.1))) c.in-Type.is c.in_ok-projected.ensures.is in
    projection-typed old at q made c.resolve_clause_if_possible.new.self e c.args.projection.0 c.args.projection.1 c.in-Type.ty c.args.clause c.in_ok-typed-in-Type.typed c.in_ok-resolved-in-Type.resolved
    c.projected.ensures.stays c.is_quiet.ensures.stays c.requires.clause c.requires.projection c.requires.stands p (c.in_ok-is_quiet-in-Type.ensures.quiet c.if-not-branch.false)
    c.in_ok-typed-in-Type.ensures.tree (rest-state q made c.with_type_for.ensures.rest) c.in_ok-resolved-in-Type.ensures.tree c.resolve_clause_if_possible.ensures.same

use Rattle.std.proofs.Common.{sym, subst}
use Rattle.ir_trees.specs.Declarations.Context.{Context}
use Rattle.ir_trees.specs.Syntax.Words.{IsClause, clause_tree, env_forest, ty_tree}
use Rattle.ir_trees.specs.Unification.Substitutions.{alone}
use Rattle.candidate_eval.specs.Interface.Accounts.{resolve}
use Rattle.candidate_eval.proofs.Dynamic.Objects.{env-kept}
use Rattle.candidate_assembly.proofs.Calls.Causes.{asked-somehow}
use Rattle.overlaps.proofs.Negated.{some-holds}
use Rattle.overlaps.proofs.Staying.{known-kept, known-then}
use Rattle.overlaps.proofs.Stopping.{asking-stop, later-known, later-refl, passed-on, stop-later}
use Rattle.overlaps.proofs.Typed.{resolved-typed, step-typed-under}
use Rattle.overlaps.specs.Specialized.{IsTypedBy}
use Rattle.overlaps.specs.Stopping.{IsOverlapStop}
use Rattle.overlaps.specs.Together.{IsProjectionType, StandsIn}
use Rattle.overlaps.proofs.specializing.with_types.Goals as goal

pub returns-in_err-clause-clause-stays : goal.returns-in_err-clause-clause-stays
returns-in_err-clause-clause-stays c = known-kept c.resolve_clause_if_possible.ensures.kept

pub returns-in_err-clause-clause-cause : goal.returns-in_err-clause-clause-cause
returns-in_err-clause-clause-cause c = passed-on (IsOverlapStop c.args.rounds.now c.resolve_clause_if_possible.new.self) c.from_residual.result c.in_err-clause.field-0.0 c.from_residual.ensures.1 (asking-stop (later-refl c.args.rounds.now) (asked-somehow (resolve (alone (clause_tree c.args.rounds.now.context.trees c.args.clause))) c.resolve_clause_if_possible.ensures.kept c.in_err-clause.ensures.cause))

pub loop-step-init : goal.loop-step-init
loop-step-init c =
    let r = c.args.rounds.now in (
      known-kept c.resolve_clause_if_possible.ensures.kept,
      c.in_ok-clause.ensures.sort,
      resolved-typed r c.resolve_clause_if_possible.new.self (env_forest r.context.trees c.args.env) (clause_tree r.context.trees c.args.clause) c.in_ok-clause.clause c.resolve_clause_if_possible.ensures.same c.in_ok-clause.ensures.tree,
    )

pub projection_in-requires : goal.projection_in-requires
projection_in-requires c = subst (λ (x : Context). IsClause x.trees c.loop-step.clause) (sym c.cx.ensures) c.loop-step.invariant.1

pub with_type-requires-clause-env : goal.with_type-requires-clause-env
with_type-requires-clause-env c = (env-kept _ _ c.args.env c.loop-step.invariant.0.grows c.requires.env).0

pub with_type-requires-clause-clause : goal.with_type-requires-clause-clause
with_type-requires-clause-clause c = c.loop-step.invariant.1

pub with_type-requires-clause-projection : goal.with_type-requires-clause-projection
with_type-requires-clause-projection c = subst (λ (x : Context). IsProjectionType x.trees c.in-Some.projection.0 c.in-Some.projection.1) c.cx.ensures c.in-Some.ensures.is

pub with_type-requires-clause-stands : goal.with_type-requires-clause-stands
with_type-requires-clause-stands c = subst (λ (x : Context). StandsIn (ty_tree x.trees c.in-Some.projection.0) (alone (clause_tree x.trees c.loop-step.clause))) c.cx.ensures c.in-Some.ensures.stands

pub returns-in_default-clause-stays : goal.returns-in_default-clause-stays
returns-in_default-clause-stays c = c.loop-step.invariant.0

pub returns-in_default-clause-sort : goal.returns-in_default-clause-sort
returns-in_default-clause-sort c = c.loop-step.invariant.1

pub returns-in_default-clause-typed : goal.returns-in_default-clause-typed
returns-in_default-clause-typed c = c.loop-step.invariant.2

pub returns-in_err-next-clause-stays : goal.returns-in_err-next-clause-stays
returns-in_err-next-clause-stays c = known-then c.loop-step.invariant.0 c.with_type.ensures.stays

pub returns-in_err-next-clause-cause : goal.returns-in_err-next-clause-cause
returns-in_err-next-clause-cause c = passed-on (IsOverlapStop c.args.rounds.now c.with_type.new.rounds) c.from_residual-in_err-next.result c.in_err-next.field-0.0 c.from_residual-in_err-next.ensures.1 (stop-later (later-known c.loop-step.invariant.0) c.in_err-next.ensures.cause)

pub returns-in_default-2-clause-stays : goal.returns-in_default-2-clause-stays
returns-in_default-2-clause-stays c = known-then c.loop-step.invariant.0 c.with_type.ensures.stays

pub returns-then-eq-clause-stays : goal.returns-then-eq-clause-stays
returns-then-eq-clause-stays c = known-then c.loop-step.invariant.0 c.with_type.ensures.stays

pub returns-then-eq-clause-sort : goal.returns-then-eq-clause-sort
returns-then-eq-clause-sort c = some-holds (IsClause c.with_type.new.rounds.context.trees) c.in_ok-next.field-0 c.in-Some-2.next c.in-Some-2.is c.in_ok-next.ensures.sort

pub returns-then-eq-clause-typed : goal.returns-then-eq-clause-typed
returns-then-eq-clause-typed c =
    step-typed-under c.args.rounds.now c.loop-step.rounds c.with_type.new.rounds c.args.env c.args.clause c.loop-step.clause c.in-Some-2.next c.loop-step.invariant.0 c.requires.env c.loop-step.invariant.2
    (some-holds (IsTypedBy c.loop-step.rounds c.with_type.new.rounds (env_forest c.loop-step.rounds.context.trees c.args.env) (clause_tree c.loop-step.rounds.context.trees c.loop-step.clause)) c.in_ok-next.field-0 c.in-Some-2.next
    c.in-Some-2.is c.in_ok-next.ensures.typed)

pub loop-step-preserved : goal.loop-step-preserved
loop-step-preserved c = (
  known-then c.loop-step.invariant.0 c.with_type.ensures.stays,
  some-holds (IsClause c.with_type.new.rounds.context.trees) c.in_ok-next.field-0 c.in-Some-2.next c.in-Some-2.is c.in_ok-next.ensures.sort,
  step-typed-under c.args.rounds.now c.loop-step.rounds c.with_type.new.rounds c.args.env c.args.clause c.loop-step.clause c.in-Some-2.next c.loop-step.invariant.0 c.requires.env c.loop-step.invariant.2
      (some-holds (IsTypedBy c.loop-step.rounds c.with_type.new.rounds (env_forest c.loop-step.rounds.context.trees c.args.env) (clause_tree c.loop-step.rounds.context.trees c.loop-step.clause)) c.in_ok-next.field-0 c.in-Some-2.next
      c.in-Some-2.is c.in_ok-next.ensures.typed),
)

pub returns-clause-stays : goal.returns-clause-stays
returns-clause-stays c = c.loop-step.invariant.0

pub returns-clause-sort : goal.returns-clause-sort
returns-clause-sort c = c.loop-step.invariant.1

pub returns-clause-typed : goal.returns-clause-typed
returns-clause-typed c = c.loop-step.invariant.2

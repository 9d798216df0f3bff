use Rattle.std.proofs.Common.{◌≡◌, ◌++◌, ◌∷◌, [], rules, subst, sym}
use Rattle.std.proofs.lemmas.Result.{IfOk-weaker, err_from_is_err_and}
use Rattle.ir_trees.specs.declared.ir.kinds.TyKind.TheVariants as K
use Rattle.ir_trees.specs.Declarations.Context.{Context}
use Rattle.ir_trees.specs.Syntax.Words.{IsClause, IsTy, KindFits, clause_tree, env_forest, kind_tree, ty_tree}
use Rattle.candidate_eval.proofs.Dynamic.Objects.{env-kept}
use Rattle.candidate_eval.proofs.Interface.Accounts.{memory-somehow}
use Rattle.candidate_assembly.proofs.Calls.Causes.{so-err}
use Rattle.overlaps.proofs.Negated.{some-holds}
use Rattle.overlaps.proofs.Staying.{known-then}
use Rattle.overlaps.proofs.Stopping.{asking-stop, later-known, later-refl, stop-later}
use Rattle.overlaps.proofs.Typed.{left-taken, said-taken-under}
use Rattle.overlaps.specs.Specialized.{IsTypedBy, Left}
use Rattle.overlaps.specs.Together.{SaysOfProjection}
use Rattle.overlaps.proofs.specializing.take_up.Goals as goal

pub said_of_projection-requires : goal.said_of_projection-requires
said_of_projection-requires c = subst (λ (x : Context). IsClause x.trees c.in-Some.typed) (sym c.cx.ensures) (some-holds (IsClause c.with_types.new.rounds.context.trees) c.in_ok-typed.field-0 c.in-Some.typed c.in-Some.is c.in_ok-typed.ensures.sort)

pub holds_as_said-requires-clause-env : goal.holds_as_said-requires-clause-env
holds_as_said-requires-clause-env c = (env-kept _ _ c.args.env c.with_types.ensures.stays.grows c.requires.env).0

pub holds_as_said-requires-clause-alias : goal.holds_as_said-requires-clause-alias
holds_as_said-requires-clause-alias c = subst (λ (x : Context). KindFits x.trees (K.Alias c.in-Some-said_of_projection.said.0)) c.cx.ensures c.in-Some-said_of_projection.ensures.fits.0

pub holds_as_said-requires-clause-projection : goal.holds_as_said-requires-clause-projection
holds_as_said-requires-clause-projection c = c.in-Some-said_of_projection.ensures.fits.1

pub holds_as_said-requires-clause-term : goal.holds_as_said-requires-clause-term
holds_as_said-requires-clause-term c = subst (λ (x : Context). IsTy x.trees c.in-Some-said_of_projection.said.1) c.cx.ensures c.in-Some-said_of_projection.ensures.fits.2

pub returns-in-Some-said_of_projection-clause-stays : goal.returns-in-Some-said_of_projection-clause-stays
returns-in-Some-said_of_projection-clause-stays c = known-then c.with_types.ensures.stays c.holds_as_said.ensures.stays

pub returns-in-Some-said_of_projection-clause-taken : goal.returns-in-Some-said_of_projection-clause-taken
returns-in-Some-said_of_projection-clause-taken c =
    let old = c.args.rounds.now in
    let mid = c.with_types.new.rounds in
    let said = subst (λ (x : Context). SaysOfProjection (clause_tree x.trees c.in-Some.typed) (kind_tree x.trees (K.Alias c.in-Some-said_of_projection.said.0)) (ty_tree x.trees c.in-Some-said_of_projection.said.1)) c.cx.ensures c.in-Some-said_of_projection.ensures.said in
    IfOk-weaker c.holds_as_said.result _ _
    (λ b h e. said-taken-under old mid c.holds_as_said.new.rounds c.args.env (clause_tree old.context.trees c.args.clause.1) c.in-Some.typed _ _ c.args.left.now.items c.with_types.ensures.stays c.holds_as_said.ensures.stays c.requires.env
    c.requires.left (some-holds (IsTypedBy old mid (env_forest old.context.trees c.args.env) (clause_tree old.context.trees c.args.clause.1)) c.in_ok-typed.field-0 c.in-Some.typed c.in-Some.is c.in_ok-typed.ensures.typed) said (h e)) c.holds_as_said.ensures.holds

pub returns-in-Some-said_of_projection-clause-cause : goal.returns-in-Some-said_of_projection-clause-cause
returns-in-Some-said_of_projection-clause-cause c = so-err c.holds_as_said.result (λ s k. stop-later (later-known c.with_types.ensures.stays) k) c.holds_as_said.ensures.cause

pub returns-in_err-push-clause-cause : goal.returns-in_err-push-clause-cause
returns-in_err-push-clause-cause c =
    let p = err_from_is_err_and c.from_residual-in_err-push.result c.from_residual-in_err-push.ensures.1 in
    rw p.1 (asking-stop (later-refl c.args.rounds.now) (memory-somehow p.2))

pub returns-clause-taken : goal.returns-clause-taken
returns-clause-taken c =
    let old = c.args.rounds.now in
    let y : Left = (c.args.clause.0, c.in-Some.typed) in
    let items : c.push.new.self.items ≡ c.args.left.now.items ++ y ∷ [] = search rules in
    λ e.
    left-taken old c.with_types.new.rounds (env_forest old.context.trees c.args.env) (clause_tree old.context.trees c.args.clause.1) y c.args.left.now.items c.push.new.self.items c.with_types.ensures.stays c.requires.left
    (some-holds (IsClause c.with_types.new.rounds.context.trees) c.in_ok-typed.field-0 c.in-Some.typed c.in-Some.is c.in_ok-typed.ensures.sort)
    (some-holds (IsTypedBy old c.with_types.new.rounds (env_forest old.context.trees c.args.env) (clause_tree old.context.trees c.args.clause.1)) c.in_ok-typed.field-0 c.in-Some.typed c.in-Some.is c.in_ok-typed.ensures.typed) items

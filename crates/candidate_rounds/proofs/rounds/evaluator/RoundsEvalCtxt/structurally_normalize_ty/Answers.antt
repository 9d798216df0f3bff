use Rattle.std.proofs.Common.{ap, sym, ◌∙◌}
use Rattle.std.proofs.lemmas.Result.{err_from_is_err_and}
use Rattle.ir_trees.specs.Syntax.Trees.{none}
use Rattle.ir_trees.specs.Syntax.Words.{ty_tree}
use Rattle.rounds_judge.specs.Aliases.Normalizing.{normalized}
use Rattle.rounds_judge.proofs.Aliases.WellListed.{all-listed}
use Rattle.candidate_rounds.specs.Evaluators.Known.{listing, state}
use Rattle.candidate_rounds.specs.Evaluators.Stopping.{normal_value}
use Rattle.candidate_rounds.proofs.Evaluators.Between.{parts}
use Rattle.candidate_rounds.proofs.Evaluators.Going.{goes-listing, goes-trans}
use Rattle.candidate_rounds.proofs.Evaluators.Interface.{keeps-going}
use Rattle.candidate_rounds.proofs.Obligations.Trying.{on-err}
use Rattle.candidate_rounds.proofs.Resolution.Normals.{open-stop, type-normalized, type-opened}
use Rattle.candidate_rounds.proofs.rounds.evaluator.RoundsEvalCtxt.structurally_normalize_ty.Goals as goal

pub returns-in_err-resolved-clause-kept : goal.returns-in_err-resolved-clause-kept
returns-in_err-resolved-clause-kept c = c.resolve_ty_if_possible.ensures.kept

pub returns-in_err-resolved-clause-cause : goal.returns-in_err-resolved-clause-cause
returns-in_err-resolved-clause-cause c =
    let p = err_from_is_err_and c.from_residual.result c.from_residual.ensures.1 in
    rw (p.1, p.2) (normal_value c.in_err-resolved.ensures.cause)

pub returns-clause-kept : goal.returns-clause-kept
returns-clause-kept c = c.resolve_ty_if_possible.ensures.kept

pub returns-clause-listed : goal.returns-clause-listed
returns-clause-listed c e =
    type-normalized c.args.self.now c.resolve_ty_if_possible.new.self c.args.ty c.in_ok-resolved.resolved c.listed_or_itself-normal.result c.resolve_ty_if_possible.ensures.goes.0 c.resolve_ty_if_possible.ensures.goes.1.0 (parts c.recall_well_kept.ensures).given c.resolve_ty_if_possible.ensures.same c.in_ok-resolved.ensures.tree c.listed_or_itself-normal.ensures.tree e (sym c.is_open_alias.ensures ∙ c.if-is_open_alias.false)

pub returns-clause-ok : goal.returns-clause-ok
returns-clause-ok c =
    let old = c.args.self.now in
    ap (λ l. normalized l (state old) none (ty_tree old.context.trees c.args.ty)) (all-listed (listing old) (parts c.recall_well_kept.ensures).given.listing)
    ∙ type-normalized c.args.self.now c.resolve_ty_if_possible.new.self c.args.ty c.in_ok-resolved.resolved c.listed_or_itself-normal.result c.resolve_ty_if_possible.ensures.goes.0 c.resolve_ty_if_possible.ensures.goes.1.0 (parts c.recall_well_kept.ensures).given c.resolve_ty_if_possible.ensures.same c.in_ok-resolved.ensures.tree c.listed_or_itself-normal.ensures.tree none (sym c.is_open_alias.ensures ∙ c.if-is_open_alias.false)

-- Where it may be any type

pub returns-in_err-open_type-clause-goes : goal.returns-in_err-open_type-clause-goes
returns-in_err-open_type-clause-goes c = goes-trans c.args.self.now c.resolve_ty_if_possible.new.self c.open_type.new.self c.resolve_ty_if_possible.ensures.goes c.open_type.ensures.goes

pub returns-in_err-open_type-clause-kept : goal.returns-in_err-open_type-clause-kept
returns-in_err-open_type-clause-kept c =
    keeps-going c.args.self.now c.open_type.new.self (goes-trans c.args.self.now c.resolve_ty_if_possible.new.self c.open_type.new.self c.resolve_ty_if_possible.ensures.goes c.open_type.ensures.goes) c.recall_well_kept.ensures

pub returns-in_err-open_type-clause-undone : goal.returns-in_err-open_type-clause-undone
returns-in_err-open_type-clause-undone c = on-err c.from_residual-in_err-open_type.result (c.in_err-open_type.ensures.stopped ∙ c.resolve_ty_if_possible.ensures.same)

pub returns-in_err-open_type-clause-cause : goal.returns-in_err-open_type-clause-cause
returns-in_err-open_type-clause-cause c =
    let old = c.args.self.now in
    let mid = c.resolve_ty_if_possible.new.self in
    let new = c.open_type.new.self in
    let p = err_from_is_err_and c.from_residual-in_err-open_type.result c.from_residual-in_err-open_type.ensures.1 in
    rw (p.1, p.2)
    (open-stop (listing old) (listing mid) (listing new) (state old) (state mid) new.context.trees (ty_tree old.context.trees c.args.ty) (ty_tree mid.context.trees c.listed_or_itself-normal.result) c.in_err-open_type.field-0.0
    (goes-listing old mid c.resolve_ty_if_possible.ensures.goes (parts c.recall_well_kept.ensures).given)
    (goes-listing old new (goes-trans old mid new c.resolve_ty_if_possible.ensures.goes c.open_type.ensures.goes) (parts c.recall_well_kept.ensures).given) c.resolve_ty_if_possible.ensures.same
    (sym c.is_open_alias.ensures ∙ c.if-is_open_alias.true) c.in_err-open_type.ensures.cause)

pub returns-then-is_open_alias-clause-kept : goal.returns-then-is_open_alias-clause-kept
returns-then-is_open_alias-clause-kept c =
    keeps-going c.args.self.now c.open_type.new.self (goes-trans c.args.self.now c.resolve_ty_if_possible.new.self c.open_type.new.self c.resolve_ty_if_possible.ensures.goes c.open_type.ensures.goes) c.recall_well_kept.ensures

pub returns-then-is_open_alias-clause-goes : goal.returns-then-is_open_alias-clause-goes
returns-then-is_open_alias-clause-goes c = goes-trans c.args.self.now c.resolve_ty_if_possible.new.self c.open_type.new.self c.resolve_ty_if_possible.ensures.goes c.open_type.ensures.goes

pub returns-then-is_open_alias-clause-listed : goal.returns-then-is_open_alias-clause-listed
returns-then-is_open_alias-clause-listed c e =
    type-opened c.args.self.now c.resolve_ty_if_possible.new.self c.args.ty c.in_ok-resolved.resolved c.listed_or_itself-normal.result c.resolve_ty_if_possible.ensures.goes.0 c.resolve_ty_if_possible.ensures.goes.1.0 (parts c.recall_well_kept.ensures).given c.resolve_ty_if_possible.ensures.same c.in_ok-resolved.ensures.tree c.listed_or_itself-normal.ensures.tree e c.open_type.new.self c.in_ok-open_type.field-0 (sym c.is_open_alias.ensures ∙ c.if-is_open_alias.true) c.in_ok-open_type.ensures.is

pub returns-then-is_open_alias-clause-ok : goal.returns-then-is_open_alias-clause-ok
returns-then-is_open_alias-clause-ok c =
    let old = c.args.self.now in
    ap (λ l. normalized l (state old) none (ty_tree old.context.trees c.args.ty)) (all-listed (listing old) (parts c.recall_well_kept.ensures).given.listing)
    ∙ type-opened c.args.self.now c.resolve_ty_if_possible.new.self c.args.ty c.in_ok-resolved.resolved c.listed_or_itself-normal.result c.resolve_ty_if_possible.ensures.goes.0 c.resolve_ty_if_possible.ensures.goes.1.0 (parts c.recall_well_kept.ensures).given c.resolve_ty_if_possible.ensures.same c.in_ok-resolved.ensures.tree c.listed_or_itself-normal.ensures.tree none c.open_type.new.self c.in_ok-open_type.field-0 (sym c.is_open_alias.ensures ∙ c.if-is_open_alias.true) c.in_ok-open_type.ensures.is

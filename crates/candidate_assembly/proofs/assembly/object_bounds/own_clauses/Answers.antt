use Rattle.std.proofs.Common.{subst, sym, ◌∙◌}
use Rattle.ir_trees.specs.Validity.WellFormed.{IsWellFormedTable}
use Rattle.ir_trees.proofs.Growth.Kept.{grows-trans, ty-kept}
use Rattle.ir_trees.proofs.Growth.Made.{IsPred-listed}
use Rattle.candidate_assembly.proofs.Objects.ObjectClauses.{pred-list-kept}
use Rattle.candidate_assembly.proofs.Objects.ObjectPlain.{bounds-of, own-clauses-are}
use Rattle.std.proofs.lemmas.Result.{err_from_is_err_and}
use Rattle.candidate_eval.specs.Interface.Unmade.IsUnmade.{no_memory}
use Rattle.candidate_eval.proofs.Interface.Unmade.{unmade-before}
use Rattle.candidate_assembly.proofs.assembly.object_bounds.own_clauses.Goals as goal

pub principal_supertraits-requires-clause-bounds : goal.principal_supertraits-requires-clause-bounds
principal_supertraits-requires-clause-bounds g c =
    let old = g.M.Build.context c.args.make.now in
    let read = bounds-of old c.cx-2.result.now c.cx-3.result.now c.args.ty c.dyn_parts.result.0 c.preds.result.now c.as_slice.result.now c.cx-2.ensures c.cx-3.ensures (c.as_slice.ensures.value ∙ c.in_ok-bounds.ensures.items) c.preds.ensures.fits c.preds.ensures.tree c.dyn_parts.ensures.bounds in
    λ k d l. IsPred-listed old.trees c.as_slice.result.now k d l read.0

pub principal_supertraits-requires-clause-are : goal.principal_supertraits-requires-clause-are
principal_supertraits-requires-clause-are g c =
    let old = g.M.Build.context c.args.make.now in
    let read = bounds-of old c.cx-2.result.now c.cx-3.result.now c.args.ty c.dyn_parts.result.0 c.preds.result.now c.as_slice.result.now c.cx-2.ensures c.cx-3.ensures (c.as_slice.ensures.value ∙ c.in_ok-bounds.ensures.items) c.preds.ensures.fits c.preds.ensures.tree c.dyn_parts.ensures.bounds in
    sym read.1

pub bounds_said-requires-clause-ty : goal.bounds_said-requires-clause-ty
bounds_said-requires-clause-ty g c = (ty-kept (g.M.Build.context c.args.make.now) (g.M.Build.context c.principal_supertraits.new.make) c.args.ty c.principal_supertraits.ensures.grows c.requires.ty).0

pub bounds_said-requires-clause-fit : goal.bounds_said-requires-clause-fit
bounds_said-requires-clause-fit g c =
    let old = g.M.Build.context c.args.make.now in
    let read = bounds-of old c.cx-2.result.now c.cx-3.result.now c.args.ty c.dyn_parts.result.0 c.preds.result.now c.as_slice-2.result.now c.cx-2.ensures c.cx-3.ensures (c.as_slice-2.ensures.value ∙ c.in_ok-bounds.ensures.items) c.preds.ensures.fits c.preds.ensures.tree c.dyn_parts.ensures.bounds in
    (pred-list-kept old (g.M.Build.context c.principal_supertraits.new.make) c.as_slice-2.result.now c.principal_supertraits.ensures.grows read.0).0

pub returns-in_err-clauses-clause-grows : goal.returns-in_err-clauses-clause-grows
returns-in_err-clauses-clause-grows g c = grows-trans _ _ _ c.principal_supertraits.ensures.grows c.bounds_said.ensures.grows

pub returns-in_err-push_supertraits-clause-grows : goal.returns-in_err-push_supertraits-clause-grows
returns-in_err-push_supertraits-clause-grows g c = grows-trans _ _ _ c.principal_supertraits.ensures.grows c.bounds_said.ensures.grows

pub returns-clause-grows : goal.returns-clause-grows
returns-clause-grows g c = grows-trans _ _ _ c.principal_supertraits.ensures.grows c.bounds_said.ensures.grows

pub returns-clause-are : goal.returns-clause-are
returns-clause-are g c =
    let old = g.M.Build.context c.args.make.now in
    let mid = g.M.Build.context c.principal_supertraits.new.make in
    let new = g.M.Build.context c.bounds_said.new.make in
    let read = bounds-of old c.cx-2.result.now c.cx-3.result.now c.args.ty c.dyn_parts.result.0 c.preds.result.now c.as_slice-2.result.now c.cx-2.ensures c.cx-3.ensures (c.as_slice-2.ensures.value ∙ c.in_ok-bounds.ensures.items) c.preds.ensures.fits c.preds.ensures.tree c.dyn_parts.ensures.bounds in
    own-clauses-are old mid new c.args.ty c.as_slice-2.result.now c.in_ok-supers.supers.items c.in_ok-clauses.clauses.items c.push_supertraits.new.clauses.items (subst IsWellFormedTable c.cx.ensures c.recall_well_formed_table.ensures) c.principal_supertraits.ensures.grows c.bounds_said.ensures.grows
    c.requires.ty c.requires.dynamic c.requires.free read.0 read.1 c.in_ok-supers.ensures.supers c.in_ok-supers.ensures.sort c.in_ok-clauses.ensures.sort c.in_ok-clauses.ensures.are
    (rw c.as_slice-3.ensures.value at c.in_ok-push_supertraits.ensures)

pub returns-in_err-bounds-clause-cause : goal.returns-in_err-bounds-clause-cause
returns-in_err-bounds-clause-cause g c =
    let p = err_from_is_err_and c.from_residual.result c.from_residual.ensures.1 in
    rw (p.1, p.2) no_memory

pub returns-in_err-push_supertraits-clause-cause : goal.returns-in_err-push_supertraits-clause-cause
returns-in_err-push_supertraits-clause-cause g c =
    let p = err_from_is_err_and c.from_residual-in_err-push_supertraits.result c.from_residual-in_err-push_supertraits.ensures.1 in
    rw (p.1, p.2) no_memory

pub returns-in_err-clauses-clause-cause : goal.returns-in_err-clauses-clause-cause
returns-in_err-clauses-clause-cause g c =
    let p = err_from_is_err_and c.from_residual-in_err-clauses.result c.from_residual-in_err-clauses.ensures.1 in
    rw (p.1, p.2) (unmade-before c.principal_supertraits.ensures.grows c.in_err-clauses.ensures.cause)

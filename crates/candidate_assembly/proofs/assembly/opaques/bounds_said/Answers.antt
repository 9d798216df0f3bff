use Rattle.std.proofs.Common.{◌∙◌, List, ap, map, subst, sym}
use Rattle.ir_trees.specs.declared.ir.kinds.Clause.{Clause}
use Rattle.ir_trees.specs.Syntax.Trees.{Tree, is_alias}
use Rattle.ir_trees.specs.Syntax.Words.{ClauseListFits, clause_tree, ty_tree}
use Rattle.ir_trees.proofs.Growth.Kept.{grows-trans, ty-kept}
use Rattle.candidate_eval.proofs.Outcomes.Responding.{clauses-kept}
use Rattle.candidate_assembly.specs.Rules.Opaques.{with_type_for}
use Rattle.candidate_assembly.proofs.Aliases.AliasChains.{alias-kept}
use Rattle.candidate_assembly.proofs.Calls.Causes.{so-err, so-ok}
use Rattle.candidate_assembly.proofs.Opaques.SaidBounds.{alias-fits, alias-takes, said-is}
use Rattle.std.proofs.lemmas.Result.{err_from_is_err_and}
use Rattle.candidate_eval.proofs.Interface.Unmade.{type-unmade, unmade-before}
use Rattle.ir_trees.specs.declared.ir.kinds.TyKind.TheVariants as TK
use Rattle.candidate_assembly.proofs.assembly.opaques.bounds_said.Goals as goal

pub bounds_with_arguments-requires-clause-args : goal.bounds_with_arguments-requires-clause-args
bounds_with_arguments-requires-clause-args g c = c.requires.opaque.args

pub bounds_with_arguments-requires-clause-fit : goal.bounds_with_arguments-requires-clause-fit
bounds_with_arguments-requires-clause-fit g c = c.requires.opaque.fit

pub mk_ty-requires-clause-fits : goal.mk_ty-requires-clause-fits
mk_ty-requires-clause-fits g c = alias-fits _ c.args.opaque (alias-kept _ _ c.args.opaque c.bounds_with_arguments.ensures.grows c.requires.opaque).0

pub mk_ty-requires-clause-takes : goal.mk_ty-requires-clause-takes
mk_ty-requires-clause-takes g c = λ strict. alias-takes _ c.args.opaque (alias-kept _ _ c.args.opaque c.bounds_with_arguments.ensures.grows c.requires.opaque).0

pub returns-in_err-opaque_ty-clause-grows : goal.returns-in_err-opaque_ty-clause-grows
returns-in_err-opaque_ty-clause-grows g c = grows-trans _ _ _ c.bounds_with_arguments.ensures.grows c.mk_ty.ensures.made.kept

pub each_with_type_for-requires-clause-old : goal.each_with_type_for-requires-clause-old
each_with_type_for-requires-clause-old g c = c.in_ok-opaque_ty.ensures.made.sort

pub each_with_type_for-requires-clause-new : goal.each_with_type_for-requires-clause-new
each_with_type_for-requires-clause-new g c = (ty-kept _ _ c.args.ty (grows-trans _ _ _ c.bounds_with_arguments.ensures.grows c.mk_ty.ensures.made.kept) c.requires.ty).0

pub each_with_type_for-requires-clause-clauses : goal.each_with_type_for-requires-clause-clauses
each_with_type_for-requires-clause-clauses g c =
    let late = g.M.Build.context c.mk_ty.new.self in
    subst (ClauseListFits late.trees) (sym c.as_slice.ensures.value) (clauses-kept _ late c.in_ok-bounds.bounds.items c.mk_ty.ensures.made.kept c.in_ok-bounds.ensures.sort).0

pub returns-clause-grows : goal.returns-clause-grows
returns-clause-grows g c = grows-trans _ _ _ (grows-trans _ _ _ c.bounds_with_arguments.ensures.grows c.mk_ty.ensures.made.kept) c.each_with_type_for.ensures.grows

pub returns-clause-rest : goal.returns-clause-rest
returns-clause-rest g c = c.each_with_type_for.ensures.rest ∙ (c.mk_ty.ensures.rest ∙ c.bounds_with_arguments.ensures.rest)

pub returns-clause-trees : goal.returns-clause-trees
returns-clause-trees g c =
    let old = g.M.Build.context c.args.make.now in
    let mid = g.M.Build.context c.bounds_with_arguments.new.make in
    let late = g.M.Build.context c.mk_ty.new.self in
    let xs = c.in_ok-bounds.bounds.items in
    let made = c.in_ok-opaque_ty.opaque_ty in
    so-ok c.each_with_type_for.result
    (λ v e.
    e
    ∙ (ap (λ (ys : List Clause). map (with_type_for (ty_tree late.trees made) (ty_tree late.trees c.args.ty)) (map (clause_tree late.trees) ys)) c.as_slice.ensures.value
    ∙ said-is old mid late c.args.opaque c.args.ty made xs c.requires.opaque c.bounds_with_arguments.ensures.grows c.mk_ty.ensures.made.kept c.requires.ty c.in_ok-opaque_ty.ensures.made.tree c.in_ok-bounds.ensures.sort c.in_ok-bounds.ensures.trees))
    c.each_with_type_for.ensures.trees

pub returns-clause-closed : goal.returns-clause-closed
returns-clause-closed g c = so-ok c.each_with_type_for.result (λ v e. c.in_ok-bounds.ensures.closed) c.each_with_type_for.ensures.sort

pub each_with_type_for-requires-clause-alias : goal.each_with_type_for-requires-clause-alias
each_with_type_for-requires-clause-alias g c = ap (λ (t : Tree). is_alias t.head) c.in_ok-opaque_ty.ensures.made.tree

pub returns-in_err-opaque_ty-clause-cause : goal.returns-in_err-opaque_ty-clause-cause
returns-in_err-opaque_ty-clause-cause g c =
    let p = err_from_is_err_and c.from_residual-in_err-opaque_ty.result c.from_residual-in_err-opaque_ty.ensures.1 in
    rw (p.1, p.2) (type-unmade (TK.Alias c.args.opaque) c.mk_ty.ensures.made.kept c.in_err-opaque_ty.ensures.made.cause)

pub returns-clause-cause : goal.returns-clause-cause
returns-clause-cause g c =
    so-err c.each_with_type_for.result (λ s x. unmade-before (grows-trans _ _ _ c.bounds_with_arguments.ensures.grows c.mk_ty.ensures.made.kept) x) c.each_with_type_for.ensures.cause

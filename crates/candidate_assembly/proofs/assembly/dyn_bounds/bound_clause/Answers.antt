use Rattle.std.proofs.Common.{◌≡◌, sym, ◌∙◌, ap, subst}
use Rattle.ir_trees.specs.declared.ir.kinds.ClauseKind.{ClauseKind}
use Rattle.ir_trees.specs.Declarations.Context.{Context, world}
use Rattle.ir_trees.specs.Declarations.References.{IsWellFormed, Takes}
use Rattle.ir_trees.specs.Syntax.Words.{ClauseFits, PredFits, clause_kind_tree, pred_kind_tree, pred_tree, ty_tree}
use Rattle.ir_trees.proofs.Growth.Kept.{grows-trans}
use Rattle.candidate_assembly.specs.Rules.DynBounds.{bound_said}
use Rattle.candidate_assembly.proofs.Objects.BoundClauses.{bound-takes, list-made, said-fits, said-takes, said-tree}
use Rattle.candidate_assembly.proofs.Calls.Causes.{so-err, so-ok}
use Rattle.std.proofs.lemmas.Result.{err_from_is_err_and}
use Rattle.candidate_eval.specs.Interface.Unmade.IsUnmade.{no_memory}
use Rattle.candidate_eval.proofs.Interface.Unmade.{clause-unmade, members-unmade}
use Rattle.candidate_assembly.proofs.assembly.dyn_bounds.bound_clause.Goals as goal

pub mk_clause-requires-clause-fits : goal.mk_clause-requires-clause-fits
mk_clause-requires-clause-fits g c =
    let old = g.M.Build.context c.args.make.now in
    let mid = g.M.Build.context c.mk_args.new.self in
    let b = c.pred-bound.result in
    let fits = subst (λ (x : Context). PredFits x.trees b) c.cx-2.ensures c.pred-bound.ensures.fits in
    subst (λ (v : ClauseKind). ClauseFits mid.trees (record { vars = b.vars; value = v })) (sym c.kind_said.ensures)
    (said-fits old mid b.vars b.value c.in_ok-args.args fits c.in_ok-args.ensures.made.kept c.in_ok-args.ensures.made.sort)

pub mk_clause-requires-clause-takes : goal.mk_clause-requires-clause-takes
mk_clause-requires-clause-takes g c = λ strict.
    let old = g.M.Build.context c.args.make.now in
    let mid = g.M.Build.context c.mk_args.new.self in
    let b = c.pred-bound.result in
    let fits = subst (λ (x : Context). PredFits x.trees b) c.cx-2.ensures c.pred-bound.ensures.fits in
    let is = subst (λ (x : Context). pred_kind_tree x.trees b ≡ pred_tree x.trees c.args.bound) c.cx-2.ensures c.pred-bound.ensures.tree in
    let forest = list-made old c.cx-3.result.now c.args.ty b.value c.in_ok-list.list.items c.as_slice.result.now _ c.in_ok-args.ensures.made.tree c.as_slice.ensures.value c.cx-3.ensures c.in_ok-list.ensures.forest in
    let takes = bound-takes old c.args.bound b (subst IsWellFormed c.cx.ensures c.recall_well_formed.ensures) is in
    subst (λ (v : ClauseKind). Takes (world mid) (clause_kind_tree mid.trees (record { vars = b.vars; value = v }))) (sym c.kind_said.ensures)
    (said-takes old mid c.args.ty b.vars b.value c.in_ok-args.args c.requires.ty fits takes c.in_ok-args.ensures.made.kept c.in_ok-args.ensures.made.sort forest)

pub returns-clause-tree : goal.returns-clause-tree
returns-clause-tree g c =
    let old = g.M.Build.context c.args.make.now in
    let mid = g.M.Build.context c.mk_args.new.self in
    let b = c.pred-bound.result in
    let fits = subst (λ (x : Context). PredFits x.trees b) c.cx-2.ensures c.pred-bound.ensures.fits in
    let is = subst (λ (x : Context). pred_kind_tree x.trees b ≡ pred_tree x.trees c.args.bound) c.cx-2.ensures c.pred-bound.ensures.tree in
    let forest = list-made old c.cx-3.result.now c.args.ty b.value c.in_ok-list.list.items c.as_slice.result.now _ c.in_ok-args.ensures.made.tree c.as_slice.ensures.value c.cx-3.ensures c.in_ok-list.ensures.forest in
    let said = said-tree old mid c.args.ty b.vars b.value c.in_ok-args.args fits c.in_ok-args.ensures.made.kept c.in_ok-args.ensures.made.sort forest in
    let same = ap (λ (v : ClauseKind). clause_kind_tree mid.trees (record { vars = b.vars; value = v })) c.kind_said.ensures in
    so-ok c.mk_clause.result (λ x m. m ∙ (same ∙ (said ∙ ap (bound_said (ty_tree old.trees c.args.ty)) is))) c.mk_clause.ensures.made.tree

pub returns-clause-grows : goal.returns-clause-grows
returns-clause-grows g c = grows-trans (g.M.Build.context c.args.make.now) (g.M.Build.context c.mk_args.new.self) (g.M.Build.context c.mk_clause.new.self) c.mk_args.ensures.made.kept c.mk_clause.ensures.made.kept

pub returns-in_err-list-clause-cause : goal.returns-in_err-list-clause-cause
returns-in_err-list-clause-cause g c =
    let p = err_from_is_err_and c.from_residual.result c.from_residual.ensures.1 in
    rw (p.1, p.2) no_memory

pub returns-in_err-args-clause-cause : goal.returns-in_err-args-clause-cause
returns-in_err-args-clause-cause g c =
    let p = err_from_is_err_and c.from_residual-in_err-args.result c.from_residual-in_err-args.ensures.1 in
    rw (p.1, p.2) (members-unmade _ c.mk_args.ensures.made.kept c.in_err-args.ensures.made.cause)

pub returns-clause-cause : goal.returns-clause-cause
returns-clause-cause g c = so-err c.mk_clause.result (λ s x. clause-unmade (record { vars = c.pred-bound.result.vars; value = c.kind_said.result }) c.mk_clause.ensures.made.kept x) c.mk_clause.ensures.made.cause

use Rattle.std.proofs.Common.{◌≡◌, ◌∙◌, refl, sym, subst}
use Rattle.std.proofs.lemmas.Result.{err_from_is_err_and}
use Rattle.std.specs.Prelude.{IfOk}
use Rattle.ir_trees.specs.Declarations.Context.{Context, world}
use Rattle.ir_trees.specs.Declarations.References.{IsWellFormed}
use Rattle.ir_trees.specs.Syntax.Trees.{ClauseKind, Tree}
use Rattle.ir_trees.specs.Syntax.Words.{IsClause, args_forest, clause_tree}
use Rattle.ir_folds.proofs.Instantiation.Joining.{clause-kept, clause-unmade, read-clause, read-fits}
use Rattle.ir_folds.proofs.Instantiation.Opening.{binder-stop, opened-cause, opened-tree, opened-takes}
use Rattle.ir_trees.proofs.Kinding.References.{fit-at}
use Rattle.ir_trees.proofs.Syntax.Rows.{kind-of}
use Rattle.ir_trees.proofs.Growth.Kept.{grows-trans}
use Rattle.ir_folds.proofs.decl.open.open_clause.Goals as goal

pub clause-value-requires : goal.clause-value-requires
clause-value-requires g c =
    subst (λ (y : Context). IsClause y.trees c.in_ok-opened.opened) (sym c.cx-3.ensures) (clause-kept _ _ c.in_ok-opened.opened c.in_ok-vars.ensures.made.kept c.in_ok-opened.ensures.sort).0

pub mk_clause-requires-clause-takes : goal.mk_clause-requires-clause-takes
mk_clause-requires-clause-takes g c = λ _.
    let new = g.M.Build.context c.mk_vars.new.self in
    opened-takes (args_forest (g.M.Build.context c.args.make.now).trees c.args.values) (g.M.Build.context c.args.make.now).trees c.args.clause c.requires.clause
    new c.in_ok-vars.vars c.clause-value.result c.in_ok-opened.opened c.in_ok-vars.ensures.made.sort c.in_ok-vars.ensures.made.tree
    (read-fits new _ c.clause-value.result c.cx-3.ensures c.clause-value.ensures.fits)
    (read-clause new _ c.in_ok-opened.opened c.clause-value.result c.cx-3.ensures c.clause-value.ensures.fits c.clause-value.ensures.tree)
    ((clause-kept _ _ c.in_ok-opened.opened c.in_ok-vars.ensures.made.kept c.in_ok-opened.ensures.sort).1 ∙ c.in_ok-opened.ensures.tree)
    (world new) (fit-at (world new) new.trees (subst IsWellFormed c.cx-2.ensures c.recall_well_formed-2.ensures) c.in_ok-opened.opened.0)

pub returns-clause-tree : goal.returns-clause-tree
returns-clause-tree g c =
    let new = g.M.Build.context c.mk_vars.new.self in
    subst (λ (t : Tree). IfOk c.mk_clause.result (λ x. clause_tree (g.M.Build.context c.mk_clause.new.self).trees x ≡ t))
    (opened-tree (args_forest (g.M.Build.context c.args.make.now).trees c.args.values) (g.M.Build.context c.args.make.now).trees c.args.clause c.requires.clause
    new c.in_ok-vars.vars c.clause-value.result c.in_ok-opened.opened c.in_ok-vars.ensures.made.sort c.in_ok-vars.ensures.made.tree
    (read-fits new _ c.clause-value.result c.cx-3.ensures c.clause-value.ensures.fits)
    (read-clause new _ c.in_ok-opened.opened c.clause-value.result c.cx-3.ensures c.clause-value.ensures.fits c.clause-value.ensures.tree)
    ((clause-kept _ _ c.in_ok-opened.opened c.in_ok-vars.ensures.made.kept c.in_ok-opened.ensures.sort).1 ∙ c.in_ok-opened.ensures.tree))
    c.mk_clause.ensures.made.tree

pub returns-in_err-opened-clause-cause : goal.returns-in_err-opened-clause-cause
returns-in_err-opened-clause-cause g c =
    let p = err_from_is_err_and c.from_residual.result c.from_residual.ensures.1 in
    let old = g.M.Build.context c.args.make.now in
    rw (p.1, p.2)
    (opened-cause _ (world old) (args_forest old.trees c.args.values) (clause_tree old.trees c.args.clause) _ (kind-of old.trees c.args.clause.0 ClauseKind refl c.requires.clause)
    (fit-at (world old) old.trees (subst IsWellFormed c.cx.ensures c.recall_well_formed.ensures) c.args.clause.0) c.in_err-opened.ensures.cause)

pub returns-in_err-vars-clause-cause : goal.returns-in_err-vars-clause-cause
returns-in_err-vars-clause-cause g c =
    let p = err_from_is_err_and c.from_residual-in_err-vars.result c.from_residual-in_err-vars.ensures.1 in
    let made = c.in_err-vars.ensures.made in
    rw (p.1, p.2) (binder-stop _ _ _ _ made.unchanged made.cause)

pub returns-clause-cause : goal.returns-clause-cause
returns-clause-cause g c =
    let new = g.M.Build.context c.mk_vars.new.self in
    clause-unmade _ _ _ _ c.mk_clause.result
    (opened-tree (args_forest (g.M.Build.context c.args.make.now).trees c.args.values) (g.M.Build.context c.args.make.now).trees c.args.clause c.requires.clause
    new c.in_ok-vars.vars c.clause-value.result c.in_ok-opened.opened c.in_ok-vars.ensures.made.sort c.in_ok-vars.ensures.made.tree
    (read-fits new _ c.clause-value.result c.cx-3.ensures c.clause-value.ensures.fits)
    (read-clause new _ c.in_ok-opened.opened c.clause-value.result c.cx-3.ensures c.clause-value.ensures.fits c.clause-value.ensures.tree)
    ((clause-kept _ _ c.in_ok-opened.opened c.in_ok-vars.ensures.made.kept c.in_ok-opened.ensures.sort).1 ∙ c.in_ok-opened.ensures.tree))
    c.mk_clause.ensures.made.unchanged c.mk_clause.ensures.made.cause

pub returns-in_err-vars-clause-grows : goal.returns-in_err-vars-clause-grows
returns-in_err-vars-clause-grows g c = grows-trans _ _ _ c.in_ok-opened.ensures.grows c.mk_vars.ensures.made.kept

pub returns-clause-grows : goal.returns-clause-grows
returns-clause-grows g c = grows-trans _ _ _ (grows-trans _ _ _ c.in_ok-opened.ensures.grows c.in_ok-vars.ensures.made.kept) c.mk_clause.ensures.made.kept

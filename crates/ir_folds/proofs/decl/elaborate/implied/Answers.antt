use Rattle.std.proofs.Common.{◌≡◌, ◌∙◌, subst}
use Rattle.std.specs.Prelude.{IfOk, length}
use Rattle.ir_trees.specs.Unification.Substitutions.{alone}
use Rattle.std.proofs.lemmas.Result.{err_from_is_err_and}
use Rattle.ir_trees.specs.Syntax.Trees.{Tree}
use Rattle.ir_trees.specs.Declarations.Context.{world}
use Rattle.ir_trees.specs.Declarations.References.{IsWellFormed}
use Rattle.ir_trees.specs.Syntax.Words.{args_forest, clause_tree, vars_tree}
use Rattle.ir_trees.specs.Hierarchy.Elaboration.{IsRenumberStop}
use Rattle.ir_trees.proofs.Growth.Kept.{args-kept, grows-trans}
use Rattle.ir_trees.proofs.Kinding.References.{fit-at}
use Rattle.ir_folds.proofs.Instantiation.Joining.{below_binder, read-clause, read-fits, read-count, joint-variables, clause-kept, fold-kept, under-lacks, joint-fits, joint-cause, instance-cause, instance-tree, instance-takes, clause-stop}
use Rattle.ir_folds.proofs.decl.elaborate.implied.Goals as goal

pub instantiated-requires-clause-clause : goal.instantiated-requires-clause-clause
instantiated-requires-clause-clause g c = (clause-kept _ _ c.args.clause c.in_ok-joint.ensures.grows c.requires.clause).0

pub instantiated-requires-clause-args : goal.instantiated-requires-clause-args
instantiated-requires-clause-args g c = (args-kept _ _ c.args.args c.in_ok-joint.ensures.grows c.requires.args).0

pub returns-in_err-joint-clause-cause : goal.returns-in_err-joint-clause-cause
returns-in_err-joint-clause-cause g c =
    let p = err_from_is_err_and c.from_residual.result c.from_residual.ensures.1 in
    let start = g.M.Build.context c.args.make.now in
    rw (p.1, p.2)
    (joint-cause _ (vars_tree start.trees c.args.vars).children (args_forest start.trees c.args.args) (clause_tree start.trees c.args.clause) _ _ (below_binder start.trees c.clause-value.result) _
    (read-clause start _ c.args.clause c.clause-value.result c.cx-2.ensures c.clause-value.ensures.fits c.clause-value.ensures.tree) c.in_err-joint.ensures.cause)

pub mk_clause-requires-clause-fits : goal.mk_clause-requires-clause-fits
mk_clause-requires-clause-fits g c =
    joint-fits _ _ c.in_ok-joint.joint c.clause-value-2.result c.in_ok-instance.ensures.grows c.in_ok-joint.ensures.sort (read-fits _ _ c.clause-value-2.result c.cx-4.ensures c.clause-value-2.ensures.fits)

pub returns-in_err-instance-clause-cause : goal.returns-in_err-instance-clause-cause
returns-in_err-instance-clause-cause g c =
    let p = err_from_is_err_and c.from_residual-in_err-instance.result c.from_residual-in_err-instance.ensures.1 in
    rw (p.1, p.2)
    (instance-cause
    (vars_tree (g.M.Build.context c.args.make.now).trees c.args.vars).children (args_forest (g.M.Build.context c.args.make.now).trees c.args.args) _ (clause_tree (g.M.Build.context c.args.make.now).trees c.args.clause)
    _ _ (below_binder (g.M.Build.context c.args.make.now).trees c.clause-value.result)
    (read-clause (g.M.Build.context c.args.make.now) _ c.args.clause c.clause-value.result c.cx-2.ensures c.clause-value.ensures.fits c.clause-value.ensures.tree)
    (read-count (g.M.Build.context c.args.make.now) _ c.args.vars c.vars-by.result.now c.cx.ensures c.vars-by.ensures.fits c.vars-by.ensures.tree)
    (joint-variables _ _ _ _ c.in_ok-joint.ensures.joint) (under-lacks _ (clause_tree (g.M.Build.context c.args.make.now).trees c.args.clause) c.requires.there)
    _ _
    (subst (λ (t : Tree). IsRenumberStop (length (g.M.Build.context c.instantiated.new.make).trees) (alone t) c.in_err-instance.field-0.0)
    (fold-kept (g.M.Build.context c.args.make.now) (g.M.Build.context c.joint_vars.new.make) c.args.args c.args.clause _ c.in_ok-joint.ensures.grows c.requires.args c.requires.clause) c.in_err-instance.ensures.cause))

pub mk_clause-requires-clause-takes : goal.mk_clause-requires-clause-takes
mk_clause-requires-clause-takes g c = λ _.
    instance-takes
    (vars_tree (g.M.Build.context c.args.make.now).trees c.args.vars).children (args_forest (g.M.Build.context c.args.make.now).trees c.args.args) _ (clause_tree (g.M.Build.context c.args.make.now).trees c.args.clause)
    _ _ (below_binder (g.M.Build.context c.args.make.now).trees c.clause-value.result)
    (read-clause (g.M.Build.context c.args.make.now) _ c.args.clause c.clause-value.result c.cx-2.ensures c.clause-value.ensures.fits c.clause-value.ensures.tree)
    (read-count (g.M.Build.context c.args.make.now) _ c.args.vars c.vars-by.result.now c.cx.ensures c.vars-by.ensures.fits c.vars-by.ensures.tree)
    (joint-variables _ _ _ _ c.in_ok-joint.ensures.joint) (under-lacks _ (clause_tree (g.M.Build.context c.args.make.now).trees c.args.clause) c.requires.there)
    (g.M.Build.context c.joint_vars.new.make) (g.M.Build.context c.instantiated.new.make) c.in_ok-joint.joint c.clause-value-2.result c.in_ok-instance.instance c.in_ok-instance.ensures.grows c.in_ok-joint.ensures.sort
    (read-fits (g.M.Build.context c.instantiated.new.make) _ c.clause-value-2.result c.cx-4.ensures c.clause-value-2.ensures.fits) c.in_ok-joint.ensures.joint
    (read-clause (g.M.Build.context c.instantiated.new.make) _ c.in_ok-instance.instance c.clause-value-2.result c.cx-4.ensures c.clause-value-2.ensures.fits c.clause-value-2.ensures.tree)
    (c.in_ok-instance.ensures.tree ∙ fold-kept (g.M.Build.context c.args.make.now) (g.M.Build.context c.joint_vars.new.make) c.args.args c.args.clause _ c.in_ok-joint.ensures.grows c.requires.args c.requires.clause)
    (world (g.M.Build.context c.instantiated.new.make)) (fit-at (world (g.M.Build.context c.instantiated.new.make)) (g.M.Build.context c.instantiated.new.make).trees (subst IsWellFormed c.cx-3.ensures c.recall_well_formed.ensures) c.in_ok-instance.instance.0)

pub returns-clause-tree : goal.returns-clause-tree
returns-clause-tree g c =
    subst (λ (t : Tree). IfOk c.mk_clause.result (λ x. clause_tree (g.M.Build.context c.mk_clause.new.self).trees x ≡ t))
    (instance-tree
    (vars_tree (g.M.Build.context c.args.make.now).trees c.args.vars).children (args_forest (g.M.Build.context c.args.make.now).trees c.args.args) _ (clause_tree (g.M.Build.context c.args.make.now).trees c.args.clause)
    _ _ (below_binder (g.M.Build.context c.args.make.now).trees c.clause-value.result)
    (read-clause (g.M.Build.context c.args.make.now) _ c.args.clause c.clause-value.result c.cx-2.ensures c.clause-value.ensures.fits c.clause-value.ensures.tree)
    (read-count (g.M.Build.context c.args.make.now) _ c.args.vars c.vars-by.result.now c.cx.ensures c.vars-by.ensures.fits c.vars-by.ensures.tree)
    (joint-variables _ _ _ _ c.in_ok-joint.ensures.joint) (under-lacks _ (clause_tree (g.M.Build.context c.args.make.now).trees c.args.clause) c.requires.there)
    (g.M.Build.context c.joint_vars.new.make) (g.M.Build.context c.instantiated.new.make) c.in_ok-joint.joint c.clause-value-2.result c.in_ok-instance.instance c.in_ok-instance.ensures.grows c.in_ok-joint.ensures.sort
    (read-fits (g.M.Build.context c.instantiated.new.make) _ c.clause-value-2.result c.cx-4.ensures c.clause-value-2.ensures.fits) c.in_ok-joint.ensures.joint
    (read-clause (g.M.Build.context c.instantiated.new.make) _ c.in_ok-instance.instance c.clause-value-2.result c.cx-4.ensures c.clause-value-2.ensures.fits c.clause-value-2.ensures.tree)
    (c.in_ok-instance.ensures.tree ∙ fold-kept (g.M.Build.context c.args.make.now) (g.M.Build.context c.joint_vars.new.make) c.args.args c.args.clause _ c.in_ok-joint.ensures.grows c.requires.args c.requires.clause))
    c.mk_clause.ensures.made.tree

pub returns-clause-cause : goal.returns-clause-cause
returns-clause-cause g c =
    clause-stop _ _ _ _ c.mk_clause.result
    (instance-tree
    (vars_tree (g.M.Build.context c.args.make.now).trees c.args.vars).children (args_forest (g.M.Build.context c.args.make.now).trees c.args.args) _ (clause_tree (g.M.Build.context c.args.make.now).trees c.args.clause)
    _ _ (below_binder (g.M.Build.context c.args.make.now).trees c.clause-value.result)
    (read-clause (g.M.Build.context c.args.make.now) _ c.args.clause c.clause-value.result c.cx-2.ensures c.clause-value.ensures.fits c.clause-value.ensures.tree)
    (read-count (g.M.Build.context c.args.make.now) _ c.args.vars c.vars-by.result.now c.cx.ensures c.vars-by.ensures.fits c.vars-by.ensures.tree)
    (joint-variables _ _ _ _ c.in_ok-joint.ensures.joint) (under-lacks _ (clause_tree (g.M.Build.context c.args.make.now).trees c.args.clause) c.requires.there)
    (g.M.Build.context c.joint_vars.new.make) (g.M.Build.context c.instantiated.new.make) c.in_ok-joint.joint c.clause-value-2.result c.in_ok-instance.instance c.in_ok-instance.ensures.grows c.in_ok-joint.ensures.sort
    (read-fits (g.M.Build.context c.instantiated.new.make) _ c.clause-value-2.result c.cx-4.ensures c.clause-value-2.ensures.fits) c.in_ok-joint.ensures.joint
    (read-clause (g.M.Build.context c.instantiated.new.make) _ c.in_ok-instance.instance c.clause-value-2.result c.cx-4.ensures c.clause-value-2.ensures.fits c.clause-value-2.ensures.tree)
    (c.in_ok-instance.ensures.tree ∙ fold-kept (g.M.Build.context c.args.make.now) (g.M.Build.context c.joint_vars.new.make) c.args.args c.args.clause _ c.in_ok-joint.ensures.grows c.requires.args c.requires.clause))
    c.mk_clause.ensures.made.unchanged c.mk_clause.ensures.made.cause

pub returns-in_err-instance-clause-grows : goal.returns-in_err-instance-clause-grows
returns-in_err-instance-clause-grows g c = grows-trans _ _ _ c.in_ok-joint.ensures.grows c.instantiated.ensures.grows

pub returns-clause-grows : goal.returns-clause-grows
returns-clause-grows g c = grows-trans _ _ _ (grows-trans _ _ _ c.in_ok-joint.ensures.grows c.in_ok-instance.ensures.grows) c.mk_clause.ensures.made.kept

use Rattle.std.proofs.Common.{refl, sym, ◌∙◌, ap}
use Rattle.std.specs.Prelude.{map}
use Rattle.ir_trees.specs.declared.ir.heads.ListHead.TheVariants as L
use Rattle.ir_trees.specs.Syntax.Trees.{ArgumentsKind, ClausesKind}
use Rattle.ir_trees.specs.Syntax.Kinds.{numbers, arg_child}
use Rattle.ir_trees.specs.Syntax.Nodes.{trees_at, node_tree, clause_child}
use Rattle.ir_trees.specs.Syntax.Words.{list_forest, clause_list_forest}
use Rattle.ir_trees.proofs.Traversal.Rebuild.{list-tree}
use Rattle.ir_folds.proofs.decl.fold.add.Goals as goal

pub returns-in_ok-mk_args-in-Args-clause-tree : goal.returns-in_ok-mk_args-in-Args-clause-tree
returns-in_ok-mk_args-in-Args-clause-tree g c =
    let old = (g.M.Build.context c.args.make.now).trees in
    let made = c.in_ok-mk_args-in-Args.ensures.made in
    list-tree (g.M.Build.context c.mk_args.new.self).trees c.in_ok-mk_args-in-Args.field-0.0 ArgumentsKind L.Args (trees_at old (numbers (map arg_child c.in-Args.list.items))) refl refl
    made.sort (made.tree ∙ ap (list_forest old) c.as_slice.ensures.value)
    ∙ ap (node_tree old) (sym c.in-Args.is)

pub returns-in_ok-mk_param_env-in-Clauses-clause-tree : goal.returns-in_ok-mk_param_env-in-Clauses-clause-tree
returns-in_ok-mk_param_env-in-Clauses-clause-tree g c =
    let old = (g.M.Build.context c.args.make.now).trees in
    let made = c.in_ok-mk_param_env-in-Clauses.ensures.made in
    list-tree (g.M.Build.context c.mk_param_env.new.self).trees c.in_ok-mk_param_env-in-Clauses.field-0.0 ClausesKind L.Clauses (trees_at old (numbers (map clause_child c.in-Clauses.list.items))) refl refl
    made.sort (made.tree ∙ ap (clause_list_forest old) c.as_slice-in-Clauses.ensures.value)
    ∙ ap (node_tree old) (sym c.in-Clauses.is)

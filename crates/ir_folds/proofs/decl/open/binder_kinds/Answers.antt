use Rattle.std.proofs.Common.{refl, ◌∙◌, ap}
use Rattle.std.specs.Prelude.{map}
use Rattle.ir_trees.specs.Syntax.Nodes.{rows}
use Rattle.ir_trees.specs.Syntax.Trees.{join}
use Rattle.ir_trees.specs.Syntax.Words.{var_kind_tree, vars_tree}
use Rattle.ir_folds.proofs.Instantiation.Joining.{read-clause}
use Rattle.ir_folds.proofs.Instantiation.Opening.{kinds-read}
use Rattle.ir_folds.proofs.decl.open.binder_kinds.Goals as goal

pub returns : goal.returns
returns c =
    kinds-read c.args.cx.now c.args.clause c.clause.result _ (read-clause c.args.cx.now _ c.args.clause c.clause.result refl c.clause.ensures.fits c.clause.ensures.tree)
    (c.in_ok-add_kinds.ensures ∙ ap (λ ks. join (rows (map var_kind_tree ks)) (vars_tree c.args.cx.now.trees c.clause.result.vars).children) c.new-kinds.ensures.items)

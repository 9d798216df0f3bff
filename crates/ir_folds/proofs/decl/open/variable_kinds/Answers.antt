use Rattle.std.proofs.Common.{sym, ◌∙◌, ap}
use Rattle.std.specs.Prelude.{map}
use Rattle.ir_trees.specs.Syntax.Nodes.{rows}
use Rattle.ir_trees.specs.Syntax.Trees.{join}
use Rattle.ir_trees.specs.Syntax.Words.{var_kind_tree, vars_tree}
use Rattle.ir_folds.proofs.decl.open.variable_kinds.Goals as goal

pub returns : goal.returns
returns c = sym (c.in_ok-add_kinds.ensures ∙ ap (λ ks. join (rows (map var_kind_tree ks)) (vars_tree c.args.cx.now.trees c.args.vars).children) c.new-kinds.ensures.items)

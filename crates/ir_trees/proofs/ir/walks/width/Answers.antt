use Rattle.std.proofs.Common.{sym, ◌∙◌}
use Rattle.ir_trees.proofs.Syntax.Places.{list_width, other_width}
use Rattle.ir_trees.proofs.ir.walks.width.Goals as goal

pub returns-then-is_list : goal.returns-then-is_list
returns-then-is_list g c = c.child_count.ensures ∙ sym (list_width (g.T.Trees.trees c.args.trees.now) c.args.number c.node-node.result.now c.node-node.ensures (sym c.is_list.ensures ∙ c.if-is_list.true))

pub returns-else-is_list : goal.returns-else-is_list
returns-else-is_list g c = sym (other_width (g.T.Trees.trees c.args.trees.now) c.args.number c.node-node.result.now c.node-node.ensures (sym c.is_list.ensures ∙ c.if-is_list.false))

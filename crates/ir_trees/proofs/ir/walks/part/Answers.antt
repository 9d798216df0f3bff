use Rattle.std.proofs.Common.{sym, ◌∙◌, subst, ◌<◌, ℕ}
use Rattle.ir_trees.proofs.Syntax.Places.{list_width, member_part, own_part}
use Rattle.ir_trees.proofs.ir.walks.part.Goals as goal

pub child-requires : goal.child-requires
child-requires g c = subst (λ (n : ℕ). c.args.place < n) (list_width (g.T.Trees.trees c.args.trees.now) c.args.number c.node-node.result.now c.node-node.ensures (sym c.is_list.ensures ∙ c.if-is_list.true)) c.requires.there

pub returns-then-is_list : goal.returns-then-is_list
returns-then-is_list g c = member_part (g.T.Trees.trees c.args.trees.now) c.args.number c.node-node.result.now c.node-node.ensures c.args.place c.child.result (sym c.is_list.ensures ∙ c.if-is_list.true) c.child.ensures

pub returns-else-is_list : goal.returns-else-is_list
returns-else-is_list g c = own_part (g.T.Trees.trees c.args.trees.now) c.args.number c.node-node.result.now c.node-node.ensures c.args.place (sym c.is_list.ensures ∙ c.if-is_list.false) c.requires.there

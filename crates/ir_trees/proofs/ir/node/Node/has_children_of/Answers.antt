use Rattle.std.proofs.Common.{Some, ap, sym, ◌∙◌}
use Rattle.ir_trees.proofs.Syntax.Shapes.{agree-more}
use Rattle.ir_trees.proofs.ir.node.Node.has_children_of.Goals as goal

pub loop-i-preserved : goal.loop-i-preserved
loop-i-preserved c =
    agree-more _ _ c.loop-i.i c.child.result c.loop-i.invariant c.child.ensures (c.child-in-loop-i.ensures ∙ ap Some (sym c.if-child.false))

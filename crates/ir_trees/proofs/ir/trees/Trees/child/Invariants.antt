use Rattle.ir_trees.proofs.Syntax.Places.{IsAt}
use Rattle.ir_trees.proofs.ir.trees.Trees.child.Given as goal

abbrev pub invariant-loop-i : goal.invariant-loop-i
invariant-loop-i g l = IsAt (g.Self.Trees.trees l.self) l.node l.place l.i l.left

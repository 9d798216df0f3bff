use Rattle.std.proofs.Common.{◌≡◌, take}
use Rattle.ir_trees.specs.Syntax.Shapes.{child_numbers}
use Rattle.ir_trees.proofs.ir.node.Node.has_children_of.Given as goal

abbrev pub invariant-loop-i : goal.invariant-loop-i
invariant-loop-i l = take l.i (child_numbers l.self) ≡ take l.i (child_numbers l.other)

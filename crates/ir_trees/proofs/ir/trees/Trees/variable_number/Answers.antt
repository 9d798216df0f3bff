use Rattle.ir_trees.proofs.Traversal.Asking.{arg-below}
use Rattle.ir_trees.proofs.ir.trees.Trees.variable_number.Goals as goal

pub head-requires : goal.head-requires
head-requires g c = rw c.number.ensures (arg-below _ _ c.requires)

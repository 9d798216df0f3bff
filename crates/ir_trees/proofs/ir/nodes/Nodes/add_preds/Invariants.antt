use Rattle.std.proofs.Common.{take}
use Rattle.std.specs.Prelude.{map}
use Rattle.ir_trees.specs.Syntax.Nodes.{pred_child}
use Rattle.ir_trees.specs.Syntax.Words.{pred_kind_tree}
use Rattle.ir_trees.proofs.Growth.Growing.{Made, BoundsTake}
use Rattle.ir_trees.proofs.ir.nodes.Nodes.add_preds.Given as goal

abbrev pub invariant-loop-bound : goal.invariant-loop-bound
invariant-loop-bound l = Made (BoundsTake l.fn.self l.bounds) l.fn.self l.self (map pred_child l.list.items) (map (pred_kind_tree l.fn.self) (take l.bound-index l.bounds))

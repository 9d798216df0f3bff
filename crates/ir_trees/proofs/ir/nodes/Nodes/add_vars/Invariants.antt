use Rattle.std.proofs.Common.{take}
use Rattle.std.specs.Prelude.{map}
use Rattle.ir_trees.specs.Syntax.Nodes.{var_child}
use Rattle.ir_trees.specs.Syntax.Words.{var_kind_tree}
use Rattle.ir_trees.proofs.Growth.Growing.{Made, Always}
use Rattle.ir_trees.proofs.ir.nodes.Nodes.add_vars.Given as goal

abbrev pub invariant-loop-kind : goal.invariant-loop-kind
invariant-loop-kind l = Made Always l.fn.self l.self (map var_child l.list.items) (map var_kind_tree (take l.kind-index l.kinds))

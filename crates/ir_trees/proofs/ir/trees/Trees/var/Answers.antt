use Rattle.ir_trees.proofs.Growth.Sorts.{var_node}
use Rattle.ir_trees.proofs.Syntax.Lists.{below_kind}
use Rattle.ir_trees.specs.Syntax.Trees.{VariableKind}
use Rattle.std.proofs.Common.{refl}
use Rattle.ir_trees.proofs.ir.trees.Trees.var.Goals as goal

pub node-requires : goal.node-requires
node-requires g c = below_kind _ _ VariableKind refl c.requires

pub unreachable-requires : goal.unreachable-requires
unreachable-requires g c =
    let k = var_node (g.Self.Trees.trees c.args.self.now) c.args.var.0 c.node.result.now c.requires c.node.ensures in
    c.in_default.not-Var k.0 k.1

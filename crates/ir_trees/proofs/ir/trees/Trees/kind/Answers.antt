use Rattle.ir_trees.proofs.Growth.Sorts.{ty_node}
use Rattle.ir_trees.proofs.Syntax.Lists.{below_kind}
use Rattle.ir_trees.specs.Syntax.Trees.{TypeKind}
use Rattle.std.proofs.Common.{refl}
use Rattle.ir_trees.proofs.ir.trees.Trees.kind.Goals as goal

pub node-requires : goal.node-requires
node-requires g c = below_kind _ _ TypeKind refl c.requires

pub unreachable-requires : goal.unreachable-requires
unreachable-requires g c =
    let k = ty_node (g.Self.Trees.trees c.args.self.now) c.args.ty.0 c.node.result.now c.requires c.node.ensures in
    c.in_default.not-Ty k.0 k.1

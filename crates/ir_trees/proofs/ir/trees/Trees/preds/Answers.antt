use Rattle.ir_trees.proofs.Growth.Sorts.{preds_node}
use Rattle.ir_trees.proofs.Syntax.Lists.{below_kind}
use Rattle.ir_trees.specs.Syntax.Trees.{PredicatesKind}
use Rattle.std.proofs.Common.{refl}
use Rattle.ir_trees.proofs.ir.trees.Trees.preds.Goals as goal

pub node-requires : goal.node-requires
node-requires g c = below_kind _ _ PredicatesKind refl c.requires

pub unreachable-requires : goal.unreachable-requires
unreachable-requires g c =
    let k = preds_node (g.Self.Trees.trees c.args.self.now) c.args.preds.0 c.node.result.now c.requires c.node.ensures in
    c.in_default.not-Preds k.0 k.1

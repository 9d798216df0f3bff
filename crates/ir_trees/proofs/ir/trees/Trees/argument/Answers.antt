use Rattle.std.proofs.Common.{refl}
use Rattle.ir_trees.proofs.Traversal.Asking.{asked-node}
use Rattle.ir_trees.proofs.Growth.Sorts.{ty_is_type, const_is_constant}
use Rattle.ir_trees.proofs.ir.trees.Trees.argument.Goals as goal

pub returns-in-Ty : goal.returns-in-Ty
returns-in-Ty g c =
    let k = asked-node (g.Self.Trees.trees c.args.self.now) c.args.number _ _ _ c.requires c.node.ensures c.in-Ty.is (ty_is_type c.in-Ty.field-0) refl in
    (refl, k.0, k.1)

pub returns-in-Const : goal.returns-in-Const
returns-in-Const g c =
    let k = asked-node (g.Self.Trees.trees c.args.self.now) c.args.number _ _ _ c.requires c.node.ensures c.in-Const.is (const_is_constant c.in-Const.field-0) refl in
    (refl, k.0, k.1)

pub returns-in-Region : goal.returns-in-Region
returns-in-Region g c =
    let k = asked-node (g.Self.Trees.trees c.args.self.now) c.args.number _ _ _ c.requires c.node.ensures c.in-Region.is refl refl in
    (refl, k.0, k.1)

use Rattle.std.proofs.Common.{refl, ◌∙◌, ap}
use Rattle.ir_trees.specs.declared.ir.node.Node.{Node}
use Rattle.ir_trees.specs.declared.ir.kinds.TyKind.{TyKind}
use Rattle.ir_trees.specs.Syntax.Nodes.{node_tree}
use Rattle.ir_trees.specs.Syntax.Words.{kind_tree}
use Rattle.ir_trees.proofs.Traversal.Asking.{asked-node}
use Rattle.ir_trees.proofs.Growth.Sorts.{ty_is_type}
use Rattle.assembly_notation.proofs.first.first_type.Goals as goal

pub returns-in-Ty : goal.returns-in-Ty
returns-in-Ty c =
    let ts = c.args.cx.now.trees in
    let node = c.in_ok-found.ensures in
    let k = asked-node ts c.in_ok-number.number _ _ _ node.0 node.1 c.in-Ty.is (ty_is_type _) refl in (
      k.0,
      node.1.tree ∙ (ap (λ (d : Node). node_tree ts d) c.in-Ty.is ∙ ap (λ (x : TyKind). kind_tree ts x) (c.is_same.ensures c.if-is_same.true)),
    )

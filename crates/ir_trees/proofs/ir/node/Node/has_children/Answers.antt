use Rattle.std.proofs.Common.{arith, refl, sym, ◌∙◌}
use Rattle.ir_trees.specs.Syntax.Nodes.{children_of}
use Rattle.ir_trees.specs.Syntax.Shapes.{child_numbers}
use Rattle.ir_trees.proofs.Syntax.Children.{length-numbers}
use Rattle.ir_trees.proofs.Syntax.Shapes.{agree-end}
use Rattle.ir_trees.proofs.ir.node.Node.has_children.Goals as goal

pub returns : goal.returns
returns c =
    let l = length-numbers (children_of c.args.self.now) in (
      (λ _. agree-end (child_numbers c.args.self.now) c.args.numbers.now c.loop-i.i (omega (arith, l, c.child_count-i-end.ensures, c.loop-i-test.false)) (l ∙ sym c.requires) c.loop-i.invariant),
      (λ _. refl),
    )

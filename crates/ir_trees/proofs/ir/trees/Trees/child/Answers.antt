use Rattle.std.proofs.Common.{arith, ap, sym, ◌∙◌, ◌+◌, ◌-◌, ◌≤◌, ◌≡◌, ℕ}
use Rattle.ir_trees.specs.Syntax.Kinds.{numbers}
use Rattle.ir_trees.specs.Syntax.Nodes.{children_of}
use Rattle.ir_trees.proofs.Syntax.Children.{Below-get, walk_end}
use Rattle.ir_trees.proofs.Syntax.Places.{passed_over, found_there, none_there, single_child}
use Rattle.ir_trees.proofs.ir.trees.Trees.child.Goals as goal

pub returns-then-has_single_children : goal.returns-then-has_single_children
returns-then-has_single_children g c =
    single_child (g.Self.Trees.trees c.args.self.now) c.args.number c.node-node.result.now c.node-node.ensures c.args.place c.child_if_there.result
    (sym c.has_single_children.ensures ∙ c.if-has_single_children.true) c.child_if_there.ensures

pub width-width-requires : goal.width-width-requires
width-width-requires g c =
    let b = Below-get c.args.number (numbers (children_of c.node-node.result.now)) c.loop-i.i c.child-child.result c.node-node.ensures.below c.child-child.ensures in
    omega (arith, b, c.requires)

pub part-requires-clause-inside : goal.part-requires-clause-inside
part-requires-clause-inside g c =
    let b = Below-get c.args.number (numbers (children_of c.node-node.result.now)) c.loop-i.i c.child-child.result c.node-node.ensures.below c.child-child.ensures in
    omega (arith, b, c.requires)

pub part-requires-clause-there : goal.part-requires-clause-there
part-requires-clause-there g c = omega (arith, c.if-left-width.true, c.width-width.ensures)

pub returns-then-left-width : goal.returns-then-left-width
returns-then-left-width g c =
    found_there (g.Self.Trees.trees c.args.self.now) c.args.number c.node-node.result.now c.args.place c.loop-i.i c.loop-i.left c.child-child.result c.part.result
    c.node-node.ensures c.child-child.ensures (omega (arith, c.if-left-width.true, c.width-width.ensures)) c.part.ensures c.loop-i.invariant

pub loop-i-preserved : goal.loop-i-preserved
loop-i-preserved g c =
    passed_over (g.Self.Trees.trees c.args.self.now) c.node-node.result.now c.args.place c.loop-i.i c.loop-i.left c.child-child.result (c.loop-i.left - c.width-width.result)
    c.child-child.ensures (whole c.loop-i.left c.width-width.result c.if-left-width.false ∙ ap (λ (w : ℕ). w + (c.loop-i.left - c.width-width.result)) c.width-width.ensures) c.loop-i.invariant
  where
    whole : (n m : ℕ) → m ≤ n → n ≡ m + (n - m)
    whole n m l = omega (arith, l)

pub returns : goal.returns
returns g c =
    none_there (g.Self.Trees.trees c.args.self.now) c.args.number c.node-node.result.now c.args.place c.loop-i.i c.loop-i.left c.node-node.ensures
    (walk_end (g.Self.Trees.trees c.args.self.now) (children_of c.node-node.result.now) c.loop-i.i _ c.child_count-i-end.ensures c.loop-i.auto.i-end c.loop-i-test.false) c.loop-i.invariant

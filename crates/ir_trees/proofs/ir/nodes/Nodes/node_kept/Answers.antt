use Rattle.std.proofs.Common.{arith, ap, ◌∙◌}
use Rattle.ir_trees.specs.Syntax.Flags.{mark}
use Rattle.ir_trees.specs.Syntax.Kinds.{numbers}
use Rattle.ir_trees.specs.Syntax.Nodes.{children_of}
use Rattle.ir_trees.proofs.Syntax.Lists.{Fits-below}
use Rattle.ir_trees.proofs.Syntax.Children.{Below-get, highest-step, height_end, walk_end}
use Rattle.ir_trees.proofs.Syntax.Marked.{marks-begin, marks-step, marks-end}
use Rattle.ir_trees.proofs.ir.nodes.Nodes.node_kept.Goals as goal
use Rattle.ir_trees.proofs.ir.nodes.Nodes.node_kept.Goals.{then-highest-kept, else-highest-kept}

pub loop-i-init : goal.loop-i-init
loop-i-init c = record {
  low = omega arith;
  height = omega arith;
  marks = marks-begin c.args.self.now c.args.node.now c.marks-marks.result (λ f. c.marks-marks.ensures f ∙ ap (mark f) c.head.ensures);
}

pub kept-kept-requires : goal.kept-kept-requires
kept-kept-requires c =
    Below-get _ (numbers (children_of c.args.node.now)) c.loop-i.i c.child.result (Fits-below _ c.args.node.now c.requires) c.child.ensures

pub loop-i-preserved : goal.loop-i-preserved
loop-i-preserved c =
    let h = highest-step c.args.self.now (numbers (children_of c.args.node.now)) c.loop-i.i c.child.result c.loop-i.highest _ c.child.ensures c.loop-i.invariant.height in
    let m = marks-step c.args.self.now c.args.node.now c.loop-i.i c.child.result c.loop-i.marks c.kept-kept.result.marks c.joined-marks.result c.child.ensures c.kept-kept.ensures.marks c.joined-marks.ensures c.loop-i.invariant.marks in
    elim c.if-highest-kept.branch [
      | then-highest-kept w ↦ record { low = omega (arith, c.kept-kept.ensures.low, w.highest-is); height = omega (arith, h, c.kept-kept.ensures.height, w.highest-is); marks = m }
      | else-highest-kept w ↦ record { low = omega (arith, c.loop-i.invariant.low, w.highest-is); height = omega (arith, h, c.kept-kept.ensures.height, w.highest-is); marks = m }
    ]

pub returns-clause-height : goal.returns-clause-height
returns-clause-height c =
    let h = height_end c.args.self.now c.args.node.now c.loop-i.i c.loop-i.highest c.loop-i.invariant.height
    (walk_end c.args.self.now (children_of c.args.node.now) c.loop-i.i _ c.child_count-i-end.ensures c.loop-i.auto.i-end c.loop-i-test.false) in
    omega (arith, h, c.own_height.ensures.is)

pub returns-clause-marks : goal.returns-clause-marks
returns-clause-marks c =
    marks-end c.args.self.now c.args.node.now c.loop-i.i c.loop-i.marks c.loop-i.invariant.marks
    (walk_end c.args.self.now (children_of c.args.node.now) c.loop-i.i _ c.child_count-i-end.ensures c.loop-i.auto.i-end c.loop-i-test.false)

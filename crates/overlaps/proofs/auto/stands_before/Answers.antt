use Rattle.std.proofs.Common.{arith}
use Rattle.ir_trees.specs.Syntax.Nodes.{tree_at}
use Rattle.overlaps.proofs.PartTraits.{not-before-more, not-before-none}
use Rattle.overlaps.proofs.auto.stands_before.Goals as goal

pub loop-earlier-init : goal.loop-earlier-init
loop-earlier-init c = let ts = c.args.cx.now.trees in not-before-none ts (tree_at ts c.args.number).children c.args.child

pub loop-earlier-preserved : goal.loop-earlier-preserved
loop-earlier-preserved c =
    let ts = c.args.cx.now.trees in not-before-more ts (tree_at ts c.args.number).children c.args.child c.loop-earlier.earlier c.loop-earlier.invariant (c.stands_at.ensures c.if-stands_at.false)

pub returns : goal.returns
returns c = λ no m l. let end = c.loop-earlier-test.false in c.loop-earlier.invariant m (omega (arith, l, end))

use Rattle.std.proofs.Common.{arith}
use Rattle.ir_trees.specs.Declarations.Context.{world_of}
use Rattle.ir_trees.proofs.Kinding.Fitting.{one-fits, all-fit, one-misfits}
use Rattle.ir_trees.proofs.decl.arity.nodes_fit.Goals as goal

pub loop-number-init : goal.loop-number-init
loop-number-init c = λ k h. absurd (omega (arith, h))

pub returns-then-not-node_fits : goal.returns-then-not-node_fits
returns-then-not-node_fits c =
    one-misfits (world_of c.args.definitions.now) c.args.nodes.now _ c.node.result.now _ c.node.ensures c.node_fits.ensures c.if-not-node_fits.true

pub loop-number-preserved : goal.loop-number-preserved
loop-number-preserved c =
    one-fits (world_of c.args.definitions.now) c.args.nodes.now _ c.node.result.now c.node.ensures (c.node_fits.ensures.0 c.if-not-node_fits.false) c.loop-number.invariant

pub returns : goal.returns
returns c =
    all-fit (world_of c.args.definitions.now) c.args.nodes.now c.loop-number.number (omega (arith, c.len-number-end.ensures.is, c.loop-number-test.false)) c.loop-number.invariant

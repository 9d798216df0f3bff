use Rattle.std.proofs.Common.{arith}
use Rattle.ir_trees.specs.Declarations.Context.{world_of}
use Rattle.ir_trees.proofs.Kinding.Arity.{one-more-takes, all-take, one-takes-not}
use Rattle.ir_trees.proofs.decl.arity.bounds_fit.Invariants.{past}
use Rattle.ir_trees.proofs.decl.arity.bounds_fit.Goals as goal

pub loop-bound-init : goal.loop-bound-init
loop-bound-init c = λ k h. absurd (omega (arith, h))

pub returns-then-not-bound_fits : goal.returns-then-not-bound_fits
returns-then-not-bound_fits c =
    one-takes-not (world_of c.args.definitions.now) c.args.nodes.now c.args.bounds.now c.loop-bound.bound-index past _ c.loop-bound-test.true c.bound_fits.ensures c.if-not-bound_fits.true

pub loop-bound-preserved : goal.loop-bound-preserved
loop-bound-preserved c =
    one-more-takes (world_of c.args.definitions.now) c.args.nodes.now c.args.bounds.now c.loop-bound.bound-index past c.loop-bound.invariant (c.bound_fits.ensures.0 c.if-not-bound_fits.false)

pub returns : goal.returns
returns c =
    all-take (world_of c.args.definitions.now) c.args.nodes.now c.args.bounds.now c.loop-bound.bound-index past c.loop-bound-test.false c.loop-bound.invariant

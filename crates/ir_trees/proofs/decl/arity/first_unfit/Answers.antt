use Rattle.std.proofs.Common.{arith}
use Rattle.ir_trees.specs.Declarations.Context.{world_of}
use Rattle.ir_trees.proofs.Validity.Headers.{headers_fit}
use Rattle.ir_trees.proofs.decl.arity.first_unfit.Goals as goal

pub returns : goal.returns
returns c =
    headers_fit (world_of c.args.definitions.now) c.args.nodes.now c.args.impls.now c.loop-number.number (omega (arith, c.loop-number-test.false, c.loop-number.auto.number-end)) c.loop-number.invariant

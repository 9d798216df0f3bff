use Rattle.ir_trees.proofs.Syntax.Principals.{pred-get}
use Rattle.ir_trees.proofs.ir.trees.Trees.principal.Goals as goal

pub pred-requires : goal.pred-requires
pred-requires g c = pred-get _ c.preds-bounds.result.now c.loop-i.i _ c.preds-bounds.ensures.fits c.loop-i-test.true

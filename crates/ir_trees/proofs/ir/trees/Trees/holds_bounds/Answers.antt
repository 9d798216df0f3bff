use Rattle.ir_trees.proofs.Kinding.Arity.{list-of-bounds}
use Rattle.ir_trees.proofs.ir.trees.Trees.holds_bounds.Goals as goal

pub returns-clause-kinds : goal.returns-clause-kinds
returns-clause-kinds g c = list-of-bounds _ _ _ c.preds.ensures.fits c.preds.ensures.tree

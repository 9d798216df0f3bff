use Rattle.std.proofs.Common.{refl}
use Rattle.ir_trees.proofs.ir.trees.Trees.has_param.Goals as goal

pub returns : goal.returns
returns g c = c.has.ensures.list refl

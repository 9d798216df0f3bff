use Rattle.std.proofs.Common.{subst}
use Rattle.ir_trees.specs.Syntax.Table.{AreDistinct}
use Rattle.ir_trees.proofs.ir.nodes.NodesTrees.recall_distinct.Goals as goal

pub returns : goal.returns
returns c = subst AreDistinct c.self.view_is c.self.invariant.2

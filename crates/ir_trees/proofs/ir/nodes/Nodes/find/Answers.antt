use Rattle.std.proofs.Common.{subst}
use Rattle.ir_trees.specs.Syntax.Table.{AreDistinct}
use Rattle.ir_trees.proofs.Growth.Distinct.{found, absent}
use Rattle.ir_trees.proofs.ir.nodes.Nodes.find.Goals as goal

pub returns-in-Some : goal.returns-in-Some
returns-in-Some c = found c.args.self.now c.self.inside.rows.entries c.args.node.now c.in-Some.index c.self.view_is c.self.invariant.0 c.in-Some.ensures.index

pub returns-in-None : goal.returns-in-None
returns-in-None c = absent c.args.self.now c.self.inside.rows.entries c.args.node.now c.self.view_is c.self.invariant.0 (subst AreDistinct c.self.view_is c.self.invariant.2) c.requires c.in-None.ensures.index

use Rattle.ir_trees.proofs.Growth.Tables.{leaves}
use Rattle.ir_trees.proofs.ir.nodes.Nodes.recall_variables_are_leaves.Goals as goal

pub returns : goal.returns
returns c = leaves c.args.self.now c.self.inside.rows.entries c.self.view_is c.self.invariant.0

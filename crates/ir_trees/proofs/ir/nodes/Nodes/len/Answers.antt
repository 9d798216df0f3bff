use Rattle.std.proofs.Common.{arith}
use Rattle.ir_trees.proofs.Growth.Tables.{table_length}
use Rattle.ir_trees.proofs.ir.nodes.Nodes.len.Goals as goal

pub returns : goal.returns
returns c =
    let l = table_length c.args.self.now c.self.inside.rows.entries c.self.view_is in
    record {
      is = omega (arith, l, c.len.ensures.len);
      most = omega (arith, l, c.len.ensures.len, c.self.invariant.1);
    }

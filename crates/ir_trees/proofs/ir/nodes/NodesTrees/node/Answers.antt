use Rattle.std.proofs.Common.{arith, sym}
use Rattle.std.proofs.lemmas.Option.{get_or_from_slice_get}
use Rattle.ir_trees.proofs.Growth.Tables.{table_length, table_row, RowAt-node}
use Rattle.ir_trees.proofs.ir.nodes.NodesTrees.node.Goals as goal

pub unreachable-requires : goal.unreachable-requires
unreachable-requires c =
    let l = table_length c.args.self.now c.self.inside.rows.entries c.self.view_is in
    let e = c.in-None.ensures.found.1 (omega (arith, l)) in absurd cc

pub returns : goal.returns
returns c =
    RowAt-node _ _ _
    (table_row c.args.self.now c.self.inside.rows.entries c.args.number (c.in-Some.node.now, c.in-Some.field-0-1.now) c.self.view_is c.self.invariant.0 c.requires
    (sym (get_or_from_slice_get c.self.inside.rows.entries c.args.number (c.in-Some.node.now, c.in-Some.field-0-1.now) _ (sym c.in-Some.ensures.entry))))

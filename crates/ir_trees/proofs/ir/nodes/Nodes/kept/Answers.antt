use Rattle.std.proofs.Common.{arith, sym}
use Rattle.std.proofs.lemmas.Option.{get_or_from_slice_get}
use Rattle.ir_trees.proofs.Growth.Tables.{table_length, table_row}
use Rattle.ir_trees.proofs.ir.nodes.Nodes.kept.Goals as goal

pub unreachable-requires : goal.unreachable-requires
unreachable-requires c =
    let l = table_length c.args.self.now c.self.inside.rows.entries c.self.view_is in
    let e = c.in-None.ensures.found.1 (omega (arith, l)) in absurd cc

pub returns : goal.returns
returns c =
    let r = table_row c.args.self.now c.self.inside.rows.entries c.args.number (c.in-Some.field-0-0.now, c.in-Some.kept.now) c.self.view_is c.self.invariant.0 c.requires
    (sym (get_or_from_slice_get c.self.inside.rows.entries c.args.number (c.in-Some.field-0-0.now, c.in-Some.kept.now) _ (sym c.in-Some.ensures.entry))) in
    record { height = r.height_is; low = r.low; marks = r.marks_are }

use Rattle.std.proofs.Common.{arith}
use Rattle.ir_trees.proofs.Growth.Putting.{put}
use Rattle.ir_trees.proofs.ir.nodes.Nodes.put.Goals as goal

pub invariant_of-self-2 : goal.invariant_of-self-2
invariant_of-self-2 c =
    let rows = c.self.inside.rows.entries in
    let p = put c.args.self.now rows c.insert_full.new.self.entries c.args.node c.args.kept c.in_ok-index.index c.self.view_is c.self.invariant.0 c.self.invariant.2 c.requires.row
    c.in_ok-index.ensures.entries c.in_ok-index.ensures.index in
    (p.rows, omega (arith, p.count, c.requires.room), p.distinct)

pub returns-clause-number : goal.returns-clause-number
returns-clause-number c =
    (put c.args.self.now c.self.inside.rows.entries c.insert_full.new.self.entries c.args.node c.args.kept c.in_ok-index.index c.self.view_is c.self.invariant.0 c.self.invariant.2 c.requires.row
    c.in_ok-index.ensures.entries c.in_ok-index.ensures.index).number

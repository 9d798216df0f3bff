use Rattle.std.proofs.Common.{length}
use Rattle.std.specs.Hash.{usize}
use Rattle.ir_trees.specs.Syntax.Nodes.{head_of}
use Rattle.ir_trees.specs.Syntax.Shapes.{child_numbers, head_input}
use Rattle.ir_trees.proofs.Syntax.Shapes.{fed-more}
use Rattle.ir_trees.proofs.ir.node.NodeHash.hash.Goals as goal

pub loop-i-preserved : goal.loop-i-preserved
loop-i-preserved g c =
    let d = c.args.self.now in
    fed-more g.H.Hasher.write c.args.state.now c.loop-i.state c.hash-in-loop-i.new.state (head_input (head_of d)) (usize (length (child_numbers d))) (child_numbers d) c.loop-i.i c.child.result c.child.ensures c.loop-i.invariant c.hash-in-loop-i.ensures

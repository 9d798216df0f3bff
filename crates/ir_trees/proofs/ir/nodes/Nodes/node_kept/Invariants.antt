use Rattle.std.proofs.Common.{◌≡◌, ◌≤◌, max, drop}
use Rattle.ir_trees.specs.Syntax.Kinds.{numbers}
use Rattle.ir_trees.specs.Syntax.Nodes.{tallest, trees_at, children_of}
use Rattle.ir_trees.proofs.Syntax.Marked.{SoFar}
use Rattle.ir_trees.proofs.ir.nodes.Nodes.node_kept.Given as goal

abbrev pub invariant-loop-i : goal.invariant-loop-i
invariant-loop-i l =
    let ks = numbers (children_of l.node) in
    record {
      low : l.highest ≤ 1024;
      height : max l.highest (tallest (trees_at l.self (drop l.i ks))) ≡ tallest (trees_at l.self ks);
      marks : SoFar l.self l.node l.i l.marks;
    }

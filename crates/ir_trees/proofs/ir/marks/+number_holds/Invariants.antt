use Rattle.std.proofs.Common.{◌≡◌, drop}
use Rattle.ir_trees.specs.Calls.Walked.{AreWithout}
use Rattle.ir_trees.specs.Syntax.Kinds.{numbers}
use Rattle.ir_trees.specs.Syntax.Nodes.{any_holds, trees_at, children_of}
use Rattle.ir_trees.proofs.ir.marks.+number_holds.Given as goal

abbrev pub decreases-number_holds : goal.decreases-number_holds
decreases-number_holds g l = l.number

abbrev pub invariant-loop-i : goal.invariant-loop-i
invariant-loop-i g l =
    let ks = numbers (children_of l.node) in
    (any_holds (g.M.Mark.marks l.mark) (trees_at (g.T.Trees.trees l.trees) ks) ≡ any_holds (g.M.Mark.marks l.mark) (trees_at (g.T.Trees.trees l.trees) (drop l.i ks)))
    × AreWithout (g.M.Mark.marks l.mark) (g.T.Trees.trees l.trees) l.walked

use Rattle.std.proofs.Common.{◌≡◌, ◌+◌, ◌*◌}
use Rattle.ir_trees.specs.Syntax.Nodes.{tree_at}
use Rattle.ir_trees.specs.Syntax.Trees.{skip}
use Rattle.assembly_notation.specs.Spelling.{AreCounted, words}
use Rattle.assembly_notation.proofs.counting.+counting.Given as goal

abbrev pub decreases-add_children : goal.decreases-add_children
decreases-add_children l = 2 * l.number

abbrev pub decreases-add_tree : goal.decreases-add_tree
decreases-add_tree l = 2 * l.number + 1

-- the words that were counted, and those of the children that are left
abbrev pub invariant-add_children-loop-place : goal.invariant-add_children-loop-place
invariant-add_children-loop-place l =
    let below = (tree_at l.cx.trees l.number).children in
    (l.after + words (skip l.place below) ≡ l.before + words below) × AreCounted l.cx.trees l.counted

-- What stands in which place below a number.
use Rattle.std.specs.Prelude.{◌≡◌, ℕ, suc, ◌≤◌, List, Bool, true, false, if◌then◌else◌}
use Rattle.ir_trees.specs.declared.ir.heads.Head.{Head}
use Rattle.ir_trees.specs.declared.ir.heads.Head.TheVariants as H
use Rattle.ir_trees.specs.declared.ir.heads.PartHead.TheVariants as P
use Rattle.ir_trees.specs.Syntax.Trees.{Forest, none, tree, Tree, count, is_list, row, skip}
use Rattle.ir_trees.specs.Syntax.Nodes.{tree_at}

-- a number among the children of another
abbrev pub single_row : List Tree → ℕ → Forest
single_row ts n = row (tree_at ts n) none

-- how many trees it is there: a list is its members, all else is one
abbrev pub width_at : List Tree → ℕ → ℕ
width_at ts n = if is_list (tree_at ts n).head then count (tree_at ts n).children else 1

-- the one of that place is the tree of that number, which is no higher
abbrev pub IsPart : List Tree → ℕ → ℕ → ℕ → Type 0
IsPart ts n i c = (c ≤ n) × (skip i (single_row ts n) ≡ tree (tree_at ts c).head (tree_at ts c).children (skip (suc i) (single_row ts n)))

-- whether each child of a node with the head is one tree, and none a list
abbrev pub has_single_children : Head → Bool
has_single_children (H.List _) = true
has_single_children (H.Part P.Vars) = true
has_single_children _ = false

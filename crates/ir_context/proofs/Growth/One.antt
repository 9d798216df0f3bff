-- Equal things of one kind have one number.
use Rattle.std.proofs.Common.{◌≡◌, ℕ, List, Some, true}
use Rattle.ir_trees.specs.declared.ir.heads.ListHead.{ListHead}
use Rattle.ir_trees.specs.Syntax.Nodes.{kind_at, tree_at}
use Rattle.ir_trees.specs.Syntax.Table.{AreDistinct}
use Rattle.ir_trees.specs.Syntax.Trees.{Kind, Tree, there}
use Rattle.ir_trees.proofs.Syntax.Lists.{below_kind}
use Rattle.ir_trees.proofs.Syntax.Splits.{list_of, lists-agree}

pub number-one : (ts : List Tree) (k : Kind) (m n : ℕ) → there k ≡ true → AreDistinct ts → kind_at ts m ≡ k → kind_at ts n ≡ k → tree_at ts m ≡ tree_at ts n → m ≡ n
number-one ts k m n h a i j e = a m n (below_kind ts m k h i) (below_kind ts n k h j) e

-- lists, by their members
pub list-one : (ts : List Tree) (k : Kind) (l : ListHead) (m n : ℕ) → there k ≡ true → list_of k ≡ Some l → AreDistinct ts → kind_at ts m ≡ k → kind_at ts n ≡ k
    → (tree_at ts m).children ≡ (tree_at ts n).children → m ≡ n
list-one ts k l m n h p a i j e = number-one ts k m n h a i j (lists-agree ts m n k l h p i j e)

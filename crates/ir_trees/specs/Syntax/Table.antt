-- the trees of a table of nodes
use Rattle.std.specs.Prelude.{◌≡◌, ◌≢◌, ℕ, ◌<◌, ◌≤◌, List, [], ◌∷◌, ◌++◌, length, ◌⊎◌}
use Rattle.ir_trees.specs.declared.ir.node.Kept.{Kept}
use Rattle.ir_trees.specs.Syntax.Marks.{AreMarks}
use Rattle.ir_trees.specs.Syntax.Trees.{Tree, height}
use Rattle.ir_trees.specs.Syntax.Kinds.{numbers}
use Rattle.ir_trees.specs.Syntax.Nodes.{tree_at, node_tree, Fits, children_of}
use Rattle.ir_trees.specs.declared.ir.node.Node.{Node}
use Rattle.ir_trees.specs.declared.ir.node.Node.TheVariants as N
use Rattle.ir_trees.specs.Declarations.Names.{principals}
use Rattle.ir_trees.specs.Syntax.Words.{pred_list_forest}

-- a node, and what is kept of its tree
abbrev pub Row : Type 0
Row = Node × Kept

-- The trees of the rows, after the trees before them.
abbrev pub trees_after : List Tree → List Row → List Tree
trees_after ts [] = ts
trees_after ts (r ∷ rs) = trees_after (ts ++ node_tree ts r.0 ∷ []) rs

-- A list of bounds has one principal at most.
abbrev pub HasOnePrincipal : List Tree → Node → Type 0
HasOnePrincipal ts (N.Preds list) = principals (pred_list_forest ts list.items) ≤ 1
HasOnePrincipal ts _ = Unit {0}

-- a row says its tree's height, and its children are among the trees before it
pub record IsRow (ts : List Tree) (r : Row) : Type 0 where
  pub fits : Fits ts r.0
  pub height_is : r.1.height ≡ height (node_tree ts r.0)
  pub low : r.1.height ≤ 1024
  pub marks_are : AreMarks r.1.marks (node_tree ts r.0)
  pub principal : HasOnePrincipal ts r.0

abbrev pub AreRows : List Tree → List Row → Type 0
AreRows ts [] = Unit {0}
AreRows ts (r ∷ rs) = IsRow ts r × AreRows (ts ++ node_tree ts r.0 ∷ []) rs

-- each number of the list is below n
abbrev pub Below : ℕ → List ℕ → Type 0
Below n [] = Unit {0}
Below n (k ∷ ks) = (k < n) × Below n ks

-- the node that a number stands for
pub record IsNodeOf (ts : List Tree) (n : ℕ) (d : Node) : Type 0 where
  pub fits : Fits ts d
  pub tree : tree_at ts n ≡ node_tree ts d
  pub below : Below n (numbers (children_of d))
  pub principal : HasOnePrincipal ts d

-- equal trees have one number
abbrev pub AreDistinct : List Tree → Type 0
AreDistinct ts = (m n : ℕ) → m < length ts → n < length ts → tree_at ts m ≡ tree_at ts n → m ≡ n

-- no number has the tree
abbrev pub IsNew : List Tree → Tree → Type 0
IsNew ts t = (n : ℕ) → n < length ts → tree_at ts n ≢ t

-- the number that a tree gets: it has the number already, or is added last
abbrev pub Puts : List Tree → List Tree → Tree → ℕ → Type 0
Puts old new t n = ((new ≡ old) × (n < length old) × (tree_at old n ≡ t)) ⊎ ((new ≡ old ++ t ∷ []) × (n ≡ length old))

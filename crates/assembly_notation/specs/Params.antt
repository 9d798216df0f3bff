-- That no parameter stands in what was made.
use Rattle.std.specs.Prelude.{◌≡◌, ℕ, Bool, true, false, List}
use Rattle.ir_trees.specs.Syntax.Trees.{Tree, holds, tree_holds, is_param}
use Rattle.ir_trees.specs.Syntax.Nodes.{tree_at}
use Rattle.ir_trees.specs.Syntax.Words.{list_forest, pred_kind_tree, bounds_forest}
use Rattle.ir_trees.specs.declared.ir.kinds.GenericArg.{GenericArg}
use Rattle.ir_trees.specs.declared.ir.kinds.Binder.{Binder}
use Rattle.ir_trees.specs.declared.ir.kinds.ExistentialPredicate.{ExistentialPredicate}

-- in the tree of the number
abbrev pub LacksParam : List Tree → ℕ → Type 0
LacksParam ts n = tree_holds is_param (tree_at ts n) ≡ false

-- in the arguments
abbrev pub ListLacksParam : List Tree → List GenericArg → Type 0
ListLacksParam ts xs = holds is_param (list_forest ts xs) ≡ false

-- in the bound
abbrev pub BoundLacksParam : List Tree → Binder ExistentialPredicate → Type 0
BoundLacksParam ts b = tree_holds is_param (pred_kind_tree ts b) ≡ false

-- in the bounds
abbrev pub BoundsLackParam : List Tree → List (Binder ExistentialPredicate) → Type 0
BoundsLackParam ts bs = holds is_param (bounds_forest ts bs) ≡ false

-- The same, asked only where no parameter may stand.
abbrev pub Lacks : Bool → List Tree → ℕ → Type 0
Lacks strict ts n = strict ≡ true → LacksParam ts n

abbrev pub ListLacks : Bool → List Tree → List GenericArg → Type 0
ListLacks strict ts xs = strict ≡ true → ListLacksParam ts xs

abbrev pub BoundLacks : Bool → List Tree → Binder ExistentialPredicate → Type 0
BoundLacks strict ts b = strict ≡ true → BoundLacksParam ts b

abbrev pub BoundsLack : Bool → List Tree → List (Binder ExistentialPredicate) → Type 0
BoundsLack strict ts bs = strict ≡ true → BoundsLackParam ts bs

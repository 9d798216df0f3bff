-- What calls say of a value of any sort, by the tree of its number in the context before and after.
use Rattle.std.specs.Prelude.{◌≡◌, ℕ, ◌<◌, true, false, suc, nat_lt, List, length, Some, Result, IfOk, IfErr}
use Rattle.ir_trees.specs.declared.ir.kinds.Args.{Args}
use Rattle.ir_trees.specs.declared.ir.kinds.Clause.{Clause}
use Rattle.ir_trees.specs.declared.ir.kinds.GenericArg.{GenericArg}
use Rattle.ir_trees.specs.declared.ir.kinds.VarKind.{VarKind}
use Rattle.ir_trees.specs.declared.ir.stop.Stop.{Stop}
use Rattle.ir_trees.specs.Declarations.Context.{Context, parameter_kind}
use Rattle.ir_trees.specs.Instantiation.Folding.{Answers, IsSubstStop, fold, argument, lacks_argument, put_if_there, shift_tree, substituted, substituted_tree}
use Rattle.ir_trees.specs.Instantiation.Folds.{IsArg, arg_tree}
use Rattle.ir_trees.specs.Instantiation.Opening.{of_kind}
use Rattle.ir_trees.specs.Syntax.Kinds.{arg_kind}
use Rattle.ir_trees.specs.Syntax.Nodes.{tree_at}
use Rattle.ir_trees.specs.Syntax.Trees.{Forest, Kind, Tree, count, skip, tree, tree_holds}
use Rattle.ir_trees.specs.Syntax.Words.{IsClause, args_forest, clause_tree}
use Rattle.ir_trees.specs.Unification.Substitutions.{row_of}

module _ {M N : Type 0} (context : M → Context) (number : N → ℕ) where
  -- the tree of a value
  abbrev pub tree_in : M → N → Tree
  tree_in m x = tree_at (context m).trees (number x)

  -- what stands in it: of a list, its members
  abbrev pub members_in : M → N → Forest
  members_in m x = (tree_in m x).children

  -- the members of what is answered are what this makes of those of the value
  abbrev pub MapsMembers : M → M → N → (Forest → Forest) → Result N Stop → Type 0
  MapsMembers old new x f result = IfOk result (λ y. members_in new y ≡ f (members_in old x))

-- a value's row: a list's members, or its one tree
abbrev pub row_at : {N : Type 0} → (N → Kind) → (N → ℕ) → List Tree → N → Forest
row_at kind number ts x = row_of (kind x) (tree_at ts (number x))

-- the row with the answers put in that are given at those trees
abbrev pub row_folded : {N : Type 0} → (N → Kind) → (N → ℕ) → (List Tree → Answers) → List Tree → N → Forest
row_folded kind number answers ts x = fold (answers ts) 0 (row_at kind number ts x)

-- A call stops, by what is left, since such trees can't be made.
abbrev pub StopsOver : {M A : Type 0} → (M → Context) → M → Forest → Result A Stop → Type 0
StopsOver context new ts result = IfErr result (λ s. IsSubstStop (length (context new).trees) ts s)

-- The tree with other arguments in it is the one before with these, which have the others in them.
abbrev pub SubstitutesOn : Forest → Forest → Tree → Tree → Type 0
SubstitutesOn others args t u = substituted_tree others u ≡ substituted_tree (substituted others 0 args) t

-- the argument of that number in a list, which has so many
abbrev pub IsArgumentAt : List Tree → Forest → ℕ → GenericArg → Type 0
IsArgumentAt ts values i v = IsArg ts v × (nat_lt i (count values) ≡ true) × (argument values i ≡ arg_tree ts v)

-- the value of that number for a variable of a kind
abbrev pub IsValueAt : List Tree → VarKind → Forest → ℕ → GenericArg → Type 0
IsValueAt ts k values i v = IsArg ts v × (arg_kind v ≡ parameter_kind k) × (of_kind k (argument values i) ≡ arg_tree ts v)

-- the argument for a parameter, under however many binders
abbrev pub IsArgumentFor : List Tree → Forest → GenericArg → GenericArg → Type 0
IsArgumentFor ts values x v =
    IsArg ts v × (arg_kind v ≡ arg_kind x)
    × ((d : ℕ) → put_if_there values d (arg_tree ts x).head ≡ Some (shift_tree d (arg_tree ts v)))

-- a clause of the context, of which each parameter has an argument
abbrev pub HasArguments : List Tree → Args → Clause → Type 0
HasArguments ts args x = IsClause ts x × (tree_holds (lacks_argument (args_forest ts args)) (clause_tree ts x) ≡ false)

-- the number, given before, of the tree of that place below a tree
abbrev pub IsChildAt : List Tree → ℕ → ℕ → ℕ → Type 0
IsChildAt ts n place c =
    (c < n) × (skip place (tree_at ts n).children ≡ tree (tree_at ts c).head (tree_at ts c).children (skip (suc place) (tree_at ts n).children))

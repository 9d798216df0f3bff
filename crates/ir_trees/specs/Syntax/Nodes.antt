-- The tree of a node over the trees of a table.
use Rattle.std.specs.Prelude.{◌≡◌, refl, ℕ, zero, suc, max, List, [], ◌∷◌, ◌++◌, map, get_or, Bool, ◌||◌, true, false}
use Rattle.ir_trees.specs.declared.ir.kinds.Pred.{Pred}
use Rattle.ir_trees.specs.declared.ir.kinds.Var.{Var}
use Rattle.ir_trees.specs.declared.ir.kinds.Clause.{Clause}
use Rattle.ir_trees.specs.declared.ir.kinds.GenericArg.{GenericArg}
use Rattle.ir_trees.specs.declared.ir.kinds.GenericArg.TheVariants as A
use Rattle.ir_trees.specs.declared.ir.heads.Head.{Head}
use Rattle.ir_trees.specs.declared.ir.heads.Head.TheVariants as H
use Rattle.ir_trees.specs.declared.ir.heads.PartHead.TheVariants as P
use Rattle.ir_trees.specs.declared.ir.heads.ListHead.TheVariants as L
use Rattle.ir_trees.specs.declared.ir.node.Node.{Node}
use Rattle.ir_trees.specs.declared.ir.node.Node.TheVariants as N
use Rattle.ir_trees.specs.Syntax.Trees.{Kind, PredicateKind, ClauseKind, VariableKind, NoKind, Forest, none, Tree, kind_of, row, height, tree_holds}
use Rattle.ir_trees.specs.Syntax.Kinds.{ty_head, const_head, pred_head, clause_head, Child, arg_kind, arg_child, ty_children, const_children, pred_children, clause_children, sig_children, numbers, sorts}

abbrev pub pred_child : Pred → Child
pred_child p = (p.0, PredicateKind)

abbrev pub var_child : Var → Child
var_child v = (v.0, VariableKind)

abbrev pub clause_child : Clause → Child
clause_child c = (c.0, ClauseKind)

abbrev pub head_of : Node → Head
head_of (N.Ty kind) = ty_head kind
head_of (N.Const kind) = const_head kind
head_of (N.Region kind) = H.Region kind
head_of (N.Args _) = H.List L.Args
head_of (N.Preds _) = H.List L.Preds
head_of (N.Clauses _) = H.List L.Clauses
head_of (N.Pred bound) = H.Part (P.Pred (pred_head bound))
head_of (N.Clause clause) = H.Part (P.Clause (clause_head clause))
head_of (N.Sig _) = H.Part P.Sig
head_of (N.Vars _) = H.Part P.Vars
head_of (N.Var kind) = H.Part (P.Var kind)

abbrev pub children_of : Node → List Child
children_of (N.Ty kind) = ty_children kind
children_of (N.Const kind) = const_children kind
children_of (N.Region _) = []
children_of (N.Args list) = map arg_child list.items
children_of (N.Preds list) = map pred_child list.items
children_of (N.Clauses list) = map clause_child list.items
children_of (N.Pred bound) = pred_children bound
children_of (N.Clause clause) = clause_children clause
children_of (N.Sig sig) = sig_children sig
children_of (N.Vars list) = map var_child list.items
children_of (N.Var _) = []

-- the meaning of a number: its place in the list of all trees so far
abbrev pub error_tree : Tree
error_tree = record { head = H.Error; children = none }

abbrev pub tree_at : List Tree → ℕ → Tree
tree_at ts n = get_or ts n error_tree

abbrev pub kind_at : List Tree → ℕ → Kind
kind_at [] n = NoKind
kind_at (t ∷ ts) zero = kind_of t.head
kind_at (t ∷ ts) (suc n) = kind_at ts n

abbrev pub trees_at : List Tree → List ℕ → List Tree
trees_at ts ks = map (tree_at ts) ks

abbrev pub kinds_at : List Tree → List ℕ → List Kind
kinds_at ts ks = map (kind_at ts) ks

-- trees as the children of one node, the members of each list in its place
abbrev pub rows : List Tree → Forest
rows [] = none
rows (t ∷ ts) = row t (rows ts)

abbrev pub tallest : List Tree → ℕ
tallest [] = 0
tallest (t ∷ ts) = max (height t) (tallest ts)

abbrev pub any_holds : (Head → Bool) → List Tree → Bool
any_holds mark [] = false
any_holds mark (t ∷ ts) = tree_holds mark t || any_holds mark ts

-- a tree over these children
abbrev pub node_of : Head → List Tree → Tree
node_of h ts = record { head = h; children = rows ts }

-- the tree of a node whose children are among the trees
abbrev pub node_tree : List Tree → Node → Tree
node_tree ts d = node_of (head_of d) (trees_at ts (numbers (children_of d)))

-- each child is there, and of its kind
abbrev pub Fits : List Tree → Node → Type 0
Fits ts d = kinds_at ts (numbers (children_of d)) ≡ sorts (children_of d)

-- every number of the old list has its tree in the new one
pub record Extends (old new : List Tree) : Type 0 where
  pub added : List Tree
  pub is : new ≡ old ++ added

-- whether a node like it, over other children, is made by one call
abbrev pub is_rebuilt : Node → Bool
is_rebuilt (N.Ty _) = true
is_rebuilt (N.Const _) = true
is_rebuilt (N.Args _) = true
is_rebuilt (N.Clauses _) = true
is_rebuilt (N.Clause _) = true
is_rebuilt (N.Sig _) = true
is_rebuilt _ = false

-- whether none of the kinds is that of one bound of a `dyn` type
abbrev pub is_bound_kind : Kind → Bool
is_bound_kind PredicateKind = true
is_bound_kind _ = false

-- an argument is none
pub arg_unbound : (a : GenericArg) → is_bound_kind (arg_kind a) ≡ false
arg_unbound (A.Ty _) = refl
arg_unbound (A.Const _) = refl
arg_unbound (A.Region _) = refl

abbrev pub have_bound : List Kind → Bool
have_bound [] = false
have_bound (k ∷ ks) = is_bound_kind k || have_bound ks

-- The variables of binders have no children.
abbrev pub AreLeaves : List Tree → Type 0
AreLeaves ts = (n : ℕ) → kind_at ts n ≡ VariableKind → (tree_at ts n).children ≡ none

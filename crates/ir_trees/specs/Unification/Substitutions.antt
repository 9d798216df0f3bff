-- Substitutions, and when two references have a common instance.
use Rattle.std.specs.Prelude.{◌≡◌, ℕ, Bool, true, false, List, [], ◌∷◌, ◌==◌, ◌&&◌, nat_lt, if◌then◌else◌}
use Rattle.ir_trees.specs.Syntax.Trees.{Kind, ConstantKind, Forest, none, tree, Tree, kind_of, is_list_kind, is_type, erase, holds}
use Rattle.ir_trees.specs.Syntax.Binders.{escapes}
use Rattle.ir_trees.specs.Declarations.Worlds.{Reference}
use Rattle.ir_trees.specs.declared.ir.heads.VariableSort.{VariableSort}
use Rattle.ir_trees.specs.declared.ir.heads.Variable.{Variable}
use Rattle.ir_trees.specs.declared.ir.heads.Head.{Head}
use Rattle.ir_trees.specs.declared.ir.heads.Head.TheVariants as H
use Rattle.ir_trees.specs.declared.ir.heads.Builtin.TheVariants as B
use Rattle.ir_trees.specs.declared.ir.heads.ConstHead.TheVariants as C
use Rattle.ir_trees.specs.declared.ir.kinds.RegionKind.TheVariants as R
use Rattle.ir_trees.specs.declared.ir.heads.VariableSort.TheVariants as V

-- A variable, and the tree that stands for it.
pub record Binding : Type 0 where
  pub variable : Variable
  pub value : Tree

-- A finite map from variables to trees; a variable that it doesn't hold stays.
abbrev pub Substitution : Type 0
Substitution = List Binding

abbrev pub same_sort : VariableSort → VariableSort → Bool
same_sort V.General V.General = true
same_sort V.Integer V.Integer = true
same_sort V.Floating V.Floating = true
same_sort V.Constant V.Constant = true
same_sort _ _ = false

abbrev pub same_variable : Variable → Variable → Bool
same_variable v w = same_sort v.sort w.sort && (v.number == w.number)

-- the variable's tree, or the other one where the map doesn't hold it
abbrev pub lookup : Substitution → Variable → Tree → Tree
lookup [] v other = other
lookup (b ∷ bs) v other = if same_variable b.variable v then b.value else lookup bs v other

-- What stands for a node, whose children have been replaced.
abbrev pub replaced : Substitution → Head → Forest → Tree
replaced s (H.Infer v) below = lookup s v (record { head = H.Infer v; children = below })
replaced s h below = record { head = h; children = below }

abbrev pub is_variable : Head → Bool
is_variable (H.Infer v) = true
is_variable _ = false

-- The trees with each variable's tree in its place.
abbrev pub apply : Substitution → Forest → Forest
apply s none = none
apply s (tree h below rest) =
    tree (replaced s h (apply s below)).head (replaced s h (apply s below)).children (apply s rest)

abbrev pub is_integer : Head → Bool
is_integer (H.Builtin (B.Int w)) = true
is_integer (H.Builtin (B.Uint w)) = true
is_integer (H.Infer v) = same_sort v.sort V.Integer
is_integer _ = false

abbrev pub is_float : Head → Bool
is_float (H.Builtin (B.Float w)) = true
is_float (H.Infer v) = same_sort v.sort V.Floating
is_float _ = false

abbrev pub is_constant_kind : Kind → Bool
is_constant_kind ConstantKind = true
is_constant_kind _ = false

-- whether a variable of the sort may go to a tree with the head
abbrev pub fits_sort : VariableSort → Head → Bool
fits_sort V.General h = is_type h
fits_sort V.Integer h = is_integer h
fits_sort V.Floating h = is_float h
fits_sort V.Constant h = is_constant_kind (kind_of h)

abbrev pub is_placeholder_above : ℕ → Head → Bool
is_placeholder_above u (H.Placeholder v) = nat_lt u v.universe
is_placeholder_above u (H.Const (C.Placeholder v)) = nat_lt u v.universe
is_placeholder_above u _ = false

-- what an evaluator makes: a variable, of types, constants or regions, or a placeholder of a universe above the root
abbrev pub is_made : Head → Bool
is_made (H.Infer v) = true
is_made (H.Region (R.Var n)) = true
is_made (H.Placeholder p) = nat_lt 0 p.universe
is_made (H.Const (C.Placeholder p)) = nat_lt 0 p.universe
is_made (H.Region (R.Placeholder p)) = nat_lt 0 p.universe
is_made _ = false

abbrev pub alone : Tree → Forest
alone t = tree t.head t.children none

abbrev pub as_row : Bool → Tree → Forest
as_row true t = t.children
as_row false t = alone t

-- What a tree of a kind is in a row: a list is its members, all else is one tree.
abbrev pub row_of : Kind → Tree → Forest
row_of k t = as_row (is_list_kind k) t

-- the universe of each variable
abbrev pub Universes : Type 0
Universes = Variable → ℕ

-- The tree is of the variable's sort, has no bound variable of an outer binder, and, with its regions erased, no
-- placeholder of a universe above the variable's.
pub record IsAllowedBinding (universe : Universes) (b : Binding) : Type 0 where
  pub fits : fits_sort b.variable.sort b.value.head ≡ true
  pub is_closed : escapes 0 (alone b.value) ≡ false
  pub in_universe : holds (is_placeholder_above (universe b.variable)) (erase (alone b.value)) ≡ false

-- An allowed substitution: each binding is.
abbrev pub IsAllowed : Universes → Substitution → Type 0
IsAllowed universe [] = Unit {0}
IsAllowed universe (b ∷ bs) = IsAllowedBinding universe b × IsAllowed universe bs

-- Two references have a common instance; `u` and `v` are the universes of their variables.
pub record Overlap (u v : Universes) (a b : Reference) : Type 0 where
  pub same_trait : a.trait ≡ b.trait
  pub left : Substitution
  pub right : Substitution
  pub left_allowed : IsAllowed u left
  pub right_allowed : IsAllowed v right
  pub common : erase (apply left a.arguments) ≡ erase (apply right b.arguments)

-- Trees with answers put in: folds, shifts, substitutions.
use Rattle.std.specs.Prelude.{◌≡◌, Bool, true, false, not, ◌&&◌, ℕ, zero, suc, ◌+◌, ◌<◌, nat_le, nat_lt, max, Option, Some, None, if◌then◌else◌}
use Rattle.std.specs.Option.{unwrap_or}
use Rattle.ir_trees.specs.declared.ir.heads.Head.{Head}
use Rattle.ir_trees.specs.declared.ir.heads.Head.TheVariants as H
use Rattle.ir_trees.specs.declared.ir.heads.ConstHead.TheVariants as C
use Rattle.ir_trees.specs.declared.ir.kinds.BoundVar.{BoundVar}
use Rattle.ir_trees.specs.declared.ir.kinds.RegionKind.TheVariants as R
use Rattle.ir_trees.specs.declared.ir.stop.Stop.{Stop}
use Rattle.ir_trees.specs.declared.ir.stop.Stop.TheVariants.{Memory, NodesFull}
use Rattle.ir_trees.specs.Syntax.Trees.{Forest, none, tree, Tree, kind_of, is_type, binders_of, count, heights, holds}
use Rattle.ir_trees.specs.Syntax.Nodes.{error_tree, is_bound_kind}
use Rattle.ir_trees.specs.Unification.Substitutions.{is_constant_kind, alone}

-- What stands in the place of a tree under so many binders, if anything does.
abbrev pub Answers : Type 0
Answers = ℕ → Tree → Option Tree

-- The trees with the answers put in, asked from the top. What has no answer keeps its head, and the fold goes on below it,
-- under the binders of the head.
abbrev pub fold : Answers → ℕ → Forest → Forest
fold f d none = none
fold f d (tree h below rest) =
    let it = unwrap_or (f d (record { head = h; children = below })) (record { head = h; children = fold f (d + binders_of h) below }) in
    tree it.head it.children (fold f d rest)

abbrev pub fold_tree : Answers → ℕ → Tree → Tree
fold_tree f d t = unwrap_or (f d t) (record { head = t.head; children = fold f (d + binders_of t.head) t.children })

abbrev pub leaf : Head → Tree
leaf h = record { head = h; children = none }

-- the variable bound `n` binders further out
abbrev pub further : ℕ → BoundVar → BoundVar
further n v = record { depth = v.depth + n; index = v.index }

-- the leaf with that variable, where none of the `d` binders passed binds it
abbrev pub moved_leaf : ℕ → ℕ → BoundVar → (BoundVar → Head) → Option Tree
moved_leaf n d v head = if nat_le d v.depth then Some (leaf (head (further n v))) else None

abbrev pub moved : ℕ → ℕ → Head → Option Tree
moved n d (H.Bound v) = moved_leaf n d v H.Bound
moved n d (H.Const (C.Bound v)) = moved_leaf n d v (λ x. H.Const (C.Bound x))
moved n d (H.Region (R.Bound v)) = moved_leaf n d v (λ x. H.Region (R.Bound x))
moved n d _ = None

-- Trees under `d` binders come to stand under `n` more outside of these: what is bound out there is bound so much further out.
abbrev pub shift : ℕ → ℕ → Forest → Forest
shift n d ts = fold (λ e t. moved n e t.head) d ts

abbrev pub shift_tree : ℕ → Tree → Tree
shift_tree n t = fold_tree (λ e u. moved n e u.head) 0 t

-- the argument of that number, and an error where there is none
abbrev pub argument : Forest → ℕ → Tree
argument none i = error_tree
argument (tree h below rest) zero = record { head = h; children = below }
argument (tree h below rest) (suc i) = argument rest i

-- what stands for a parameter under `d` binders
abbrev pub put : Forest → ℕ → Head → Option Tree
put args d (H.Param i) = Some (shift_tree d (argument args i))
put args d (H.Const (C.Param i)) = Some (shift_tree d (argument args i))
put args d _ = None

-- The trees with the argument of its number in the place of each parameter.
abbrev pub substituted : Forest → ℕ → Forest → Forest
substituted args d ts = fold (λ e t. put args e t.head) d ts

abbrev pub substituted_tree : Forest → Tree → Tree
substituted_tree args t = fold_tree (λ e u. put args e u.head) 0 t

-- whether it is a parameter whose argument is of another kind
abbrev pub is_misplaced : Forest → Head → Bool
is_misplaced args (H.Param i) = not (is_type (argument args i).head)
is_misplaced args (H.Const (C.Param i)) = not (is_constant_kind (kind_of (argument args i).head))
is_misplaced args _ = false

-- whether it is a parameter that has no argument of its kind
abbrev pub lacks_argument : Forest → Head → Bool
lacks_argument args (H.Param i) = not (nat_lt i (count args) && is_type (argument args i).head)
lacks_argument args (H.Const (C.Param i)) = not (nat_lt i (count args) && is_constant_kind (kind_of (argument args i).head))
lacks_argument args _ = false

-- what stands for a parameter that has one; others stay
abbrev pub put_if_there : Forest → ℕ → Head → Option Tree
put_if_there args d h = if lacks_argument args h then None else put args d h

-- a variable that is bound more than 2^32 - 1 binders further out
abbrev pub is_too_far : Head → Bool
is_too_far (H.Bound v) = nat_lt 4294967295 v.depth
is_too_far (H.Const (C.Bound v)) = nat_lt 4294967295 v.depth
is_too_far (H.Region (R.Bound v)) = nat_lt 4294967295 v.depth
is_too_far _ = false

-- how many bounds of `dyn` types stand in a row
abbrev pub bounds_in : Forest → ℕ
bounds_in none = 0
bounds_in (tree h below rest) = (if is_bound_kind (kind_of h) then 1 else 0) + bounds_in rest

-- the most bounds that stand in one row, be it this or one below
abbrev pub most_bounds : Forest → ℕ
most_bounds none = 0
most_bounds (tree h below rest) = max (bounds_in (tree h below rest)) (max (most_bounds below) (most_bounds rest))

-- Why trees were not made, where so many numbers are given: a growth was refused; fewer numbers are left than the longest list
-- of bounds in them takes, one for each and one more; they are higher than 1,024; or a variable in them is bound too far out.
pub data IsSubstStop (given : ℕ) (made : Forest) : Stop → Type 0 where
  no_memory : IsSubstStop given made Memory
  few_numbers : 4294967295 < given + (most_bounds made + 1) → IsSubstStop given made NodesFull
  high_tree : 1024 < heights made → IsSubstStop given made NodesFull
  far_variable : holds is_too_far made ≡ true → IsSubstStop given made NodesFull

-- why an answer was not made; where nothing is answered, nothing stops
abbrev pub IsAnswerStop : ℕ → Option Tree → Stop → Type 0
IsAnswerStop given None s = ⊥
IsAnswerStop given (Some t) s = IsSubstStop given (alone t) s

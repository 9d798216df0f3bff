-- What stood under a binder, with trees in the place of its variables, and that binder gone: what is bound further out is
-- bound one binder nearer.
use Rattle.std.specs.Prelude.{ℕ, Bool, true, false, ◌==◌, ◌-◌, nat_lt, Option, Some, None, List, if◌then◌else◌}
use Rattle.ir_trees.specs.declared.ir.heads.Head.{Head}
use Rattle.ir_trees.specs.declared.ir.heads.Head.TheVariants as H
use Rattle.ir_trees.specs.declared.ir.heads.ConstHead.TheVariants as C
use Rattle.ir_trees.specs.declared.ir.heads.PartHead.TheVariants as P
use Rattle.ir_trees.specs.declared.ir.kinds.BoundVar.{BoundVar}
use Rattle.ir_trees.specs.declared.ir.kinds.RegionKind.TheVariants as R
use Rattle.ir_trees.specs.declared.ir.kinds.VarKind.{VarKind}
use Rattle.ir_trees.specs.declared.ir.kinds.VarKind.TheVariants as V
use Rattle.ir_trees.specs.Syntax.Trees.{Kind, TypeKind, ConstantKind, RegionKind, Forest, none, tree, Tree, kind_of}
use Rattle.ir_trees.specs.Instantiation.Folding.{fold, fold_tree, leaf, argument, shift_tree}
use Rattle.ir_trees.specs.Hierarchy.Supers.{after_first}
use Rattle.ir_trees.specs.Syntax.Words.{binder_tree}

abbrev pub is_of : VarKind → Kind → Bool
is_of V.Ty TypeKind = true
is_of V.Const ConstantKind = true
is_of V.Region RegionKind = true
is_of _ _ = false

abbrev pub error_of : VarKind → Head
error_of V.Ty = H.Error
error_of V.Const = H.Const C.Error
error_of V.Region = H.Region R.Error

-- the tree, if it is of that kind, else the error of that kind
abbrev pub of_kind : VarKind → Tree → Tree
of_kind k t = if is_of k (kind_of t.head) then t else leaf (error_of k)

-- a bound variable of that kind
abbrev pub bound_head : VarKind → BoundVar → Head
bound_head V.Ty v = H.Bound v
bound_head V.Const v = H.Const (C.Bound v)
bound_head V.Region v = H.Region (R.Bound v)

abbrev pub is_bound_variable : Head → Bool
is_bound_variable (H.Bound v) = true
is_bound_variable (H.Const (C.Bound v)) = true
is_bound_variable (H.Region (R.Bound v)) = true
is_bound_variable _ = false

abbrev pub nearer : BoundVar → BoundVar
nearer v = record { depth = v.depth - 1; index = v.index }

-- What stands for a bound variable under so many binders. One of the binder that is gone is the value of its number, if that is
-- there and of the variable's kind, else the error of that kind.
abbrev pub opened_variable : Forest → ℕ → VarKind → BoundVar → Option Tree
opened_variable values d k v =
    if v.depth == d then Some (shift_tree d (of_kind k (argument values v.index)))
    else (if nat_lt d v.depth then Some (leaf (bound_head k (nearer v))) else None)

abbrev pub opened_head : Forest → ℕ → Head → Option Tree
opened_head values d (H.Bound v) = opened_variable values d V.Ty v
opened_head values d (H.Const (C.Bound v)) = opened_variable values d V.Const v
opened_head values d (H.Region (R.Bound v)) = opened_variable values d V.Region v
opened_head values d _ = None

abbrev pub opened : Forest → Forest → Forest
opened values ts = fold (λ d t. opened_head values d t.head) 0 ts

abbrev pub opened_tree : Forest → Tree → Tree
opened_tree values t = fold_tree (λ d u. opened_head values d u.head) 0 t

-- A clause with values in the place of the variables of its binder, which still stands above it.
abbrev pub opened_below : Forest → Tree → Tree
opened_below values c = fold_tree (λ d t. opened_head values (d - 1) t.head) 0 c

-- A clause under an empty binder, with values in the place of the variables of its own.
abbrev pub opened_clause : Forest → Tree → Tree
opened_clause values c = record { head = c.head; children = tree (H.Part P.Vars) none (opened values (after_first c.children)) }

-- the variables of a binder, by their kinds, and then what stands under the binder of a clause
abbrev pub under_variables : List VarKind → Tree → Forest
under_variables ks c = tree (H.Part P.Vars) (binder_tree ks).children (after_first c.children)

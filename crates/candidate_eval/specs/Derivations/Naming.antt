-- Clauses under their binders, opened by names of a rule. The parameter number k is the rule's variable number k, of whatever kind that
-- is; what is put into the rule's trees puts it in.
use Rattle.std.specs.Prelude.{ℕ, zero, suc, ◌+◌, ◌==◌, nat_lt, Option, Some, None, List, [], ◌∷◌, slice_get, if◌then◌else◌}
use Rattle.ir_trees.specs.declared.ir.heads.Head.{Head}
use Rattle.ir_trees.specs.declared.ir.heads.Head.TheVariants as H
use Rattle.ir_trees.specs.declared.ir.heads.ConstHead.TheVariants as C
use Rattle.ir_trees.specs.declared.ir.heads.PartHead.TheVariants as P
use Rattle.ir_trees.specs.declared.ir.kinds.BoundVar.{BoundVar}
use Rattle.ir_trees.specs.declared.ir.kinds.RegionKind.TheVariants as R
use Rattle.ir_trees.specs.declared.ir.kinds.VarKind.{VarKind}
use Rattle.ir_trees.specs.declared.ir.kinds.VarKind.TheVariants as V
use Rattle.ir_trees.specs.Syntax.Trees.{Kind, Forest, tree, none, Tree}
use Rattle.ir_trees.specs.Instantiation.Folding.{fold, fold_tree, leaf}
use Rattle.ir_trees.specs.Instantiation.Opening.{is_of, error_of, bound_head, nearer}
use Rattle.ir_trees.specs.Hierarchy.Supers.{after_first}
use Rattle.candidate_eval.specs.Derivations.Characterization.{bound_kinds}

-- What stands for a variable of the binder: its name, counted from the first number on, where it is of that kind; else, and where there is
-- no such variable, the error of that kind, as where values are put in.
abbrev pub name_of : ℕ → VarKind → ℕ → Option Kind → Tree
name_of first k i None = leaf (error_of k)
name_of first k i (Some j) = if is_of k j then leaf (H.Param (first + i)) else leaf (error_of k)

abbrev pub named_variable : ℕ → List Kind → ℕ → VarKind → BoundVar → Option Tree
named_variable first ks d k v =
    if v.depth == d then Some (name_of first k v.index (slice_get ks v.index))
    else (if nat_lt d v.depth then Some (leaf (bound_head k (nearer v))) else None)

abbrev pub named_head : ℕ → List Kind → ℕ → Head → Option Tree
named_head first ks d (H.Bound v) = named_variable first ks d V.Ty v
named_head first ks d (H.Const (C.Bound v)) = named_variable first ks d V.Const v
named_head first ks d (H.Region (R.Bound v)) = named_variable first ks d V.Region v
named_head first ks d _ = None

-- Trees that stood under a binder of variables of these kinds, with the names from the first number on in the place of these: a row, and
-- one of them.

abbrev pub named : ℕ → List Kind → Forest → Forest
named first ks ts = fold (λ d t. named_head first ks d t.head) 0 ts

abbrev pub named_tree : ℕ → List Kind → Tree → Tree
named_tree first ks t = fold_tree (λ d u. named_head first ks d u.head) 0 t

-- A clause under an empty binder, with the names from the first number on in the place of the variables of its own.
abbrev pub named_clause : ℕ → Tree → Tree
named_clause first c = record { head = c.head; children = tree (H.Part P.Vars) none (named first (bound_kinds c.children) (after_first c.children)) }

-- so many names, from that number on
abbrev pub names_from : ℕ → ℕ → List Tree
names_from first zero = []
names_from first (suc n) = leaf (H.Param first) ∷ names_from (suc first) n

-- trees in a row
abbrev pub row_of : List Tree → Forest
row_of [] = none
row_of (t ∷ ts) = tree t.head t.children (row_of ts)

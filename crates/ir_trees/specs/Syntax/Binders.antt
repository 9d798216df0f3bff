-- Bound variables that no binder binds.
use Rattle.std.specs.Prelude.{ℕ, Bool, false, ◌||◌, ◌+◌, nat_le}
use Rattle.ir_trees.specs.declared.ir.heads.Head.{Head}
use Rattle.ir_trees.specs.declared.ir.heads.Head.TheVariants as H
use Rattle.ir_trees.specs.declared.ir.heads.ConstHead.TheVariants as C
use Rattle.ir_trees.specs.declared.ir.kinds.RegionKind.TheVariants as R
use Rattle.ir_trees.specs.Syntax.Trees.{Forest, none, tree, Tree, binders_of}

-- whether it is a bound variable of none of the next `n` binders out
abbrev pub is_beyond : ℕ → Head → Bool
is_beyond n (H.Bound v) = nat_le n v.depth
is_beyond n (H.Const (C.Bound v)) = nat_le n v.depth
is_beyond n (H.Region (R.Bound v)) = nat_le n v.depth
is_beyond n _ = false

-- Whether a bound variable stands in the trees that neither a binder in them binds nor one of the `n` binders above them.
abbrev pub escapes : ℕ → Forest → Bool
escapes n none = false
escapes n (tree h below rest) = is_beyond n h || (escapes (n + binders_of h) below || escapes n rest)

abbrev pub tree_escapes : ℕ → Tree → Bool
tree_escapes n t = is_beyond n t.head || escapes (n + binders_of t.head) t.children

-- What stands under binders that both sides of an equation have.
use Rattle.std.specs.Prelude.{ℕ, Bool, true, false, ◌&&◌, ◌==◌, ◌-◌, nat_le, Option, Some, None, List, ◌∷◌, slice_get, if◌then◌else◌}
use Rattle.ir_trees.specs.declared.ir.heads.Head.{Head}
use Rattle.ir_trees.specs.declared.ir.heads.Head.TheVariants as H
use Rattle.ir_trees.specs.declared.ir.kinds.BoundVar.{BoundVar}
use Rattle.ir_trees.specs.declared.ir.kinds.RegionKind.TheVariants as R
use Rattle.ir_trees.specs.Syntax.Trees.{Forest, none, tree, Tree, binders_of}
use Rattle.ir_trees.specs.Instantiation.Folding.{fold_tree, leaf}
use Rattle.candidate_eval.specs.Judges.States.{State, with_universe}

-- The binders that were entered, the innermost first: for each the universe of the placeholders that stand for its variables.
abbrev pub Scope : Type 0
Scope = List ℕ

-- Where a tree stands under these binders and `d` more of its own: the placeholder for a bound region that one of the binders
-- entered binds. Bound types and constants stay: outside of the binders there is nothing that they could be.

abbrev pub placed_region : BoundVar → Option ℕ → Option Tree
placed_region v None = None
placed_region v (Some u) = Some (leaf (H.Region (R.Placeholder (record { universe = u; index = v.index }))))

abbrev pub placed_head : Scope → ℕ → Head → Option Tree
placed_head us d (H.Region (R.Bound v)) = if nat_le d v.depth then placed_region v (slice_get us (v.depth - d)) else None
placed_head us d _ = None

abbrev pub placed_tree : Scope → Tree → Tree
placed_tree us t = fold_tree (λ d u. placed_head us d u.head) 0 t

-- Below a head with a binder that binder is entered, with a fresh universe. A binder without variables, which are the first of
-- what stands below, makes none.

abbrev pub is_row : Forest → Bool
is_row none = false
is_row (tree h a r) = true

abbrev pub has_variables : Forest → Bool
has_variables none = false
has_variables (tree h a r) = is_row a

abbrev pub has_binder : Head → Bool
has_binder h = binders_of h == 1

abbrev pub entered : State → Head → Forest → State
entered S h below = if has_binder h && has_variables below then with_universe S else S

abbrev pub scope_below : State → Scope → Head → Forest → Scope
scope_below S us h below = if has_binder h then (entered S h below).newest_universe ∷ us else us

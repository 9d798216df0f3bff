-- How two rows of trees are made equal: what is first on both sides is looked at, and then what is left.
use Rattle.std.specs.Prelude.{ℕ, zero, suc, ◌+◌, ◌*◌, ◌&&◌, max, Option, Some, None, List, [], ◌∷◌, ◌++◌, if◌then◌else◌}
use Rattle.ir_trees.specs.declared.ir.heads.Head.{Head}
use Rattle.ir_trees.specs.declared.ir.heads.Head.TheVariants as H
use Rattle.ir_trees.specs.declared.ir.heads.Variable.{Variable}
use Rattle.ir_trees.specs.declared.ir.heads.PartHead.TheVariants as P
use Rattle.ir_trees.specs.declared.ir.heads.ClauseHead.TheVariants as Cl
use Rattle.ir_trees.specs.Syntax.Trees.{Forest, none, tree, Tree, is_alias}
use Rattle.ir_trees.specs.Unification.Unify.{same_head}
use Rattle.candidate_eval.specs.Judges.States.{State, VariableInfo, Pending, resolved, resolved_tree}
use Rattle.candidate_eval.specs.Judges.Soundness.{is_region}
use Rattle.rounds_judge.specs.Aliases.Listed.{Listing, normalized_tree, current}
use Rattle.rounds_judge.specs.Equations.Scopes.{Scope, placed_tree, scope_below, entered}
use Rattle.rounds_judge.specs.Equations.Binding.{may_take, bound}

-- Two rows under the same binders.
pub record Pair : Type 0 where
  pub scope : Scope
  pub left : Forest
  pub right : Forest

-- What a look at the first pair comes to: nothing is left; the sides can't be made equal; or a state, and what is left there.
pub data Visit : Type 0 where
  Done : Visit
  Refused : Visit
  Left : State → List Pair → Visit

-- The value for a variable that meets the tree: all values are put in, listed aliases are replaced, and placeholders stand for the regions
-- that the binders around it bind.
abbrev pub value_for : Listing → State → Scope → Tree → Tree
value_for l S us t = placed_tree us (normalized_tree l (resolved_tree S t))

abbrev pub taken : State → Variable → Tree → List Pair → Option Visit
taken S v t more = if may_take S v t then Some (Left (bound S v t) more) else None

-- A variable that meets a tree gets it as its value, if it may.
abbrev pub offered : Listing → State → Scope → Head → Tree → List Pair → Option Visit
offered l S us (H.Infer v) t more = taken S v (value_for l S us t) more
offered l S us _ t more = None

-- One region outlives another.
abbrev pub outlives : Tree → Tree → Tree
outlives r s = record {
  head = H.Part (P.Clause Cl.RegionOutlives);
  children = tree (H.Part P.Vars) none (tree r.head r.children (tree s.head s.children none));
}

-- Each of two regions outlives the other: recorded, where they differ.
abbrev pub with_equal_regions : State → Tree → Tree → State
with_equal_regions S r s =
    if same_head r.head s.head then S else record S { regions = S.regions ++ outlives r s ∷ outlives s r ∷ [] }

-- Else two regions are equal, as far as is recorded; and trees with one head are, where what is below them is.
abbrev pub matched : State → Scope → Tree → Tree → List Pair → Visit
matched S us x y more =
    if is_region x.head && is_region y.head then Left (with_equal_regions S (placed_tree us x) (placed_tree us y)) more
    else (if same_head x.head y.head then Left (entered S x.head x.children) (record { scope = scope_below S us x.head x.children; left = x.children; right = y.children } ∷ more)
    else Refused)

abbrev pub first_of : Option Visit → Option Visit → Visit → Visit
first_of (Some v) o w = v
first_of None (Some v) w = v
first_of None None w = w

-- Two trees meet: the left one's variable goes before the right one's.
abbrev pub met : Listing → State → Scope → Tree → Tree → List Pair → Visit
met l S us x y more = first_of (offered l S us x.head y more) (offered l S us y.head x more) (matched S us x y more)

abbrev pub visited : Listing → State → List Pair → Visit
visited l S [] = Done
visited l S (p ∷ more) = rows p.left p.right
  where
    rows : Forest → Forest → Visit
    rows none none = Left S more
    rows none (tree g b s) = Refused
    rows (tree h a r) none = Refused
    rows (tree h a r) (tree g b s) =
        met l S p.scope (current l S (record { head = h; children = a })) (current l S (record { head = g; children = b })) (record p { left = r; right = s } ∷ more)

-- at most so many looks
abbrev pub looked : Listing → ℕ → State → List Pair → Option State
looked l zero S ps = None
looked l (suc n) S ps = elim (visited l S ps) [ Done ↦ Some S | Refused ↦ None | Left T more ↦ looked l n T more ]

-- How many looks are enough. A tree counts for one more than what is below it, and an alias for as much more as the types that are
-- listed, which may come in its place. Each row counts for one, too. A value makes trees grow: all that is left can grow to the
-- square, once for each variable without a value.

abbrev pub size : ℕ → Forest → ℕ
size k none = 0
size k (tree h below rest) = 2 + (if is_alias h then k else 0) + size k below + size k rest

abbrev pub greatest_type : List (Tree × Tree) → ℕ
greatest_type [] = 0
greatest_type (p ∷ ps) = max (size 0 (tree p.1.head p.1.children none)) (greatest_type ps)

abbrev pub size_of_types : Listing → ℕ
size_of_types l = greatest_type l.pairs

abbrev pub size_of_pairs : Listing → State → List Pair → ℕ
size_of_pairs l S [] = 0
size_of_pairs l S (p ∷ ps) =
    1 + size (size_of_types l) (resolved S p.left) + size (size_of_types l) (resolved S p.right) + size_of_pairs l S ps

abbrev pub unbound_of : Option Tree → ℕ
unbound_of None = 1
unbound_of (Some t) = 0

abbrev pub count_unbound : List VariableInfo → ℕ
count_unbound [] = 0
count_unbound (i ∷ is) = unbound_of i.value + count_unbound is

abbrev pub enough : ℕ → ℕ → ℕ
enough zero n = suc n
enough (suc u) n = suc n + enough u (suc n * suc n)

abbrev pub looks : Listing → State → List Pair → ℕ
looks l S ps = enough (count_unbound S.variables) (size_of_pairs l S ps)

-- The state in which both sides of each pair are equal, if they can be.
abbrev pub unified : Listing → State → List Pair → Option State
unified l S ps = looked l (looks l S ps) S ps

-- The state in which both rows are equal, if they can be.
abbrev pub equated : Listing → State → Forest → Forest → Option State
equated l S a b = unified l S (record { scope = []; left = a; right = b } ∷ [])

-- The answer of an equation that leaves no goals.
abbrev pub without_goals : Option State → Option (List Pending × State)
without_goals None = None
without_goals (Some T) = Some ([], T)

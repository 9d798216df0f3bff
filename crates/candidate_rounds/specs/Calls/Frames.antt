-- What is left of an equation, by numbers of a context.
use Rattle.std.specs.Prelude.{◌≡◌, ◌<◌, ◌≤◌, ◌&&◌, ℕ, suc, Bool, true, false, Option, Some, None, List, [], ◌∷◌, ◌++◌, map, length, reverse, take}
use Rattle.ir_trees.specs.declared.ir.kinds.Region.{Region}
use Rattle.ir_trees.specs.Syntax.Nodes.{tree_at}
use Rattle.ir_trees.specs.Syntax.Trees.{Forest, Tree, skip, tree}
use Rattle.ir_trees.specs.Syntax.Words.{IsArgs, IsRegion, region_tree}
use Rattle.candidate_rounds.specs.declared.rounds.equating.Frame.{Frame}
use Rattle.candidate_rounds.specs.declared.rounds.equating.Rest.{Rest}
use Rattle.candidate_eval.specs.Judges.Soundness.{is_region}
use Rattle.candidate_eval.specs.Judges.States.{State, with_universe}
use Rattle.rounds_judge.specs.Equations.Equating.{Pair, Visit, Left}
use Rattle.candidate_rounds.specs.Evaluators.Known.{Each, Evaluator, judged_at, state, tree_of}
use Rattle.rounds_judge.specs.Aliases.Listed.{current}
use Rattle.rounds_judge.specs.Equations.Scopes.{Scope, placed_tree, scope_below}

-- The binders that were entered stand by their universes, the innermost last; so many of them are around a frame.
abbrev pub scope_of : List ℕ → ℕ → Scope
scope_of us n = reverse (take n us)

-- the rows below two nodes, from a place on
abbrev pub pair_of : List Tree → List ℕ → Frame → Pair
pair_of ts us f = record {
  scope = scope_of us f.binders;
  left = skip f.place (tree_at ts f.left).children;
  right = skip f.place (tree_at ts f.right).children;
}

-- the frames stand with the first pair last
abbrev pub pairs_of : List Tree → List ℕ → List Frame → List Pair
pairs_of ts us fs = map (pair_of ts us) (reverse fs)

-- What is left at an evaluator: the scope of all binders that were entered, the pairs by the trees of its context, and with its state all
-- that a look leaves.

abbrev pub full_scope : Rest → Scope
full_scope q = reverse q.universes.items

abbrev pub pairs_left : Evaluator → Rest → List Pair
pairs_left r q = pairs_of r.context.trees q.universes.items q.frames.items

abbrev pub left_at : Evaluator → Rest → Visit
left_at r q = Left (state r) (pairs_left r q)

-- The pairs that are left with one frame more: where it was taken off, its pair comes first; and where it stands last among the frames.

abbrev pub pairs_from : Evaluator → Rest → Frame → List Pair
pairs_from r q f = pair_of r.context.trees q.universes.items f ∷ pairs_left r q

abbrev pub pairs_with : Evaluator → Rest → Frame → List Pair
pairs_with r q f = pairs_of r.context.trees q.universes.items (q.frames.items ++ f ∷ [])

-- what is below two trees of one head, the binder entered that they may have
abbrev pub pair_below : State → Scope → Tree → Tree → Pair
pair_below S us x y = record { scope = scope_below S us x.head x.children; left = x.children; right = y.children }

-- what the tree of a number is at the evaluator's state
abbrev pub current_at : Evaluator → ℕ → Tree
current_at r n = judged_at r current (tree_of r n)

-- what stands for a region under the binders that were entered
abbrev pub region_under : List Tree → List ℕ → Region → Tree
region_under ts us x = placed_tree (reverse us) (region_tree ts x)

-- The number is a context's, and of the first of a node's children from that place on.
abbrev pub IsChildFrom : List Tree → Forest → ℕ → ℕ → Type 0
IsChildFrom ts f place n = (n < length ts) × (skip place f ≡ tree (tree_at ts n).head (tree_at ts n).children (skip (suc place) f))

-- Whether the trees of two numbers are regions, and what they are then.

abbrev pub both_regions : List Tree → ℕ → ℕ → Bool
both_regions ts n m = is_region (tree_at ts n).head && is_region (tree_at ts m).head

abbrev pub AreRegionsOf : List Tree → ℕ → ℕ → Region × Region → Type 0
AreRegionsOf ts n m p = (p.0.0 ≡ n) × (p.1.0 ≡ m) × IsRegion ts p.0 × IsRegion ts p.1 × (both_regions ts n m ≡ true)

-- The numbers are the context's, and of lists where they are said to be.
abbrev pub IsFrame : List Tree → Frame → Type 0
IsFrame ts f = (f.left < length ts) × (f.right < length ts) × (f.are_lists ≡ true → IsArgs ts (record { 0 = f.left }) × IsArgs ts (record { 0 = f.right }))

-- Those last are under as many binders as those before, or more, and under so many at most.
abbrev pub AreNested : ℕ → List Frame → Type 0
AreNested n [] = Unit {0}
AreNested n (f ∷ fs) = (f.binders ≤ n) × AreNested f.binders fs

abbrev pub AreFrames : List Tree → List ℕ → List Frame → Type 0
AreFrames ts us fs = Each (IsFrame ts) (reverse fs) × AreNested (length us) (reverse fs)

-- a visit where a value was taken, and nothing else
abbrev pub taken_if : Bool → State → List Pair → Option Visit
taken_if true S more = Some (Left S more)
taken_if false S more = None

-- the state below a binder: variables have a fresh universe
abbrev pub with_binder : Bool → State → State
with_binder true S = with_universe S
with_binder false S = S

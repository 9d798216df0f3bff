-- What walks note of what they have gone through: equal trees have one number, and may stand in many places.
use Rattle.std.specs.Prelude.{◌≡◌, ◌⊎◌, ℕ, Bool, true, false, List, [], ◌∷◌, ◌++◌}
use Rattle.ir_trees.specs.declared.ir.heads.Head.{Head}
use Rattle.ir_trees.specs.declared.ir.unify.RightSide.{RightSide}
use Rattle.ir_trees.specs.Syntax.Binders.{tree_escapes}
use Rattle.ir_trees.specs.Syntax.Nodes.{tree_at}
use Rattle.ir_trees.specs.Syntax.Trees.{Tree, tree_holds}
use Rattle.ir_trees.specs.Unification.Unify.{trees_may_unify}

-- of each member
abbrev pub Each : {A : Type 0} → (A → Type 0) → List A → Type 0
Each P [] = Unit {0}
Each P (x ∷ xs) = P x × Each P xs

-- The keys that were noted, or these and that key.
abbrev pub MayBeNoted : {A : Type 0} → A → List A → List A → Type 0
MayBeNoted x old new = (new ≡ old) ⊎ (new ≡ old ++ x ∷ [])

-- No head with the mark stands in the trees of these numbers.
abbrev pub AreWithout : (Head → Bool) → List Tree → List ℕ → Type 0
AreWithout mark ts ns = Each (λ n. tree_holds mark (tree_at ts n) ≡ false) ns

-- The trees of each of these pairs of numbers may be made equal, so far as quick rejection says.
abbrev pub MayUnify : RightSide → List Tree → List (ℕ × ℕ) → Type 0
MayUnify right ts ps = Each (λ p. trees_may_unify right (tree_at ts p.0) (tree_at ts p.1) ≡ true) ps

-- No bound variable escapes from the tree of a number and so many binders that were passed above it.
abbrev pub HoldBack : List Tree → List (ℕ × ℕ) → Type 0
HoldBack ts ps = Each (λ p. tree_escapes p.1 (tree_at ts p.0) ≡ false) ps

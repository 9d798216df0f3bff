-- Instances of what a response leaves open.
use Rattle.std.specs.Prelude.{◌≡◌, ℕ, zero, suc, ◌<◌, ◌≤◌, Bool, true, false, nat_le, nat_lt, Option, Some, None, slice_get}
use Rattle.ir_trees.specs.declared.ir.heads.Head.{Head}
use Rattle.ir_trees.specs.declared.ir.heads.Head.TheVariants as H
use Rattle.ir_trees.specs.declared.ir.heads.ConstHead.TheVariants as C
use Rattle.ir_trees.specs.declared.ir.heads.Variable.{Variable}
use Rattle.ir_trees.specs.declared.ir.kinds.RegionKind.TheVariants as R
use Rattle.ir_trees.specs.Syntax.Trees.{Forest, none, tree, Tree, erase, holds}
use Rattle.ir_trees.specs.Syntax.Binders.{escapes}
use Rattle.ir_trees.specs.Unification.Substitutions.{Universes, alone, fits_sort}
use Rattle.candidate_eval.specs.declared.eval.variable.CanonicalVar.{CanonicalVar}
use Rattle.candidate_eval.specs.Outcomes.Responses.{Response}
use Rattle.candidate_eval.specs.Judges.States.{State, VariableInfo, Values, valued, resolved}
use Rattle.candidate_eval.specs.Judges.Alike.{info}
use Rattle.candidate_eval.specs.Derivations.Mentions.{IsBelow}
use Rattle.candidate_eval.specs.Judges.Soundness.{Live, AreLeaves, is_strange, universes}

-- Trees for type and constant variables; a variable without one stays.
abbrev pub Instance : Type 0
Instance = Variable → Option Tree

abbrev pub instance : Instance → Values
instance i (H.Infer v) = i v
instance i _ = None

-- a placeholder of that universe or one above it, or a variable that may come to hold one
abbrev pub is_of_universe : Universes → ℕ → Head → Bool
is_of_universe w n (H.Placeholder p) = nat_le n p.universe
is_of_universe w n (H.Const (C.Placeholder p)) = nat_le n p.universe
is_of_universe w n (H.Infer v) = nat_le n (w v)
is_of_universe w n _ = false

-- Variables of universes `u` get closed trees of their sort in which nothing is of a universe above the variable's own; what is
-- left is of universes `w`.
pub record IsAllowedInto (u w : Universes) (i : Instance) : Type 0 where
  pub fits : (v : Variable) (t : Tree) → i v ≡ Some t → fits_sort v.sort t.head ≡ true
  pub is_closed : (v : Variable) (t : Tree) → i v ≡ Some t → escapes 0 (alone t) ≡ false
  pub in_universe : (v : Variable) (t : Tree) (n : ℕ) → i v ≡ Some t → u v < n → holds (is_of_universe w n) (alone t) ≡ false
  pub stays : (v : Variable) → i v ≡ None → w v ≤ u v

abbrev pub tree_number : Forest → ℕ → Option Tree
tree_number none n = None
tree_number (tree h below rest) zero = Some (record { head = h; children = below })
tree_number (tree h below rest) (suc n) = tree_number rest n

-- what a response says of the root variables, by their numbers
abbrev pub answer_values : Response → Values
answer_values r (H.Infer v) = tree_number r.values v.number
answer_values r (H.Region (R.Var n)) = tree_number r.values n
answer_values r _ = None

abbrev pub universe_or_root : Option CanonicalVar → ℕ
universe_or_root None = 0
universe_or_root (Some v) = v.universe

-- the universes of the variables that it leaves
abbrev pub response_universes : Response → Universes
response_universes r v = universe_or_root (slice_get r.vars v.number)

-- The first m variables are the roots.
abbrev pub HasRootsFirst : State → ℕ → Type 0
HasRootsFirst S m = (n : ℕ) (i : VariableInfo) → info S n ≡ Some i → i.is_root ≡ nat_lt n m

-- It says of trees of the first m variables what an allowed instance of the state's values does.
pub record IsInstanceOf (S : State) (L : Live) (m : ℕ) (w : Universes) (v : Forest → Forest) : Type 0 where
  pub of : Instance
  pub allowed : IsAllowedInto (universes S) w of
  pub same : (ts : Forest) → IsBelow m ts → holds (is_strange S L) ts ≡ false → AreLeaves ts → erase (v ts) ≡ erase (valued (instance of) (resolved S ts))

-- The response of a state: on the root variables each allowed instance of it is one of the state.
abbrev pub IsResponseOf : State → Live → Response → Type 0
IsResponseOf S L r =
    (m : ℕ) → HasRootsFirst S m → (w : Universes) (i : Instance) → IsAllowedInto (response_universes r) w i
    → IsInstanceOf S L m w (λ ts. valued (instance i) (valued (answer_values r) ts))

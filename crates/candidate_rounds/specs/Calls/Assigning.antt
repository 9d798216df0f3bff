-- Variables that get values, one after another, by numbers of a context.
use Rattle.std.specs.Prelude.{◌≡◌, ◌≤◌, ◌<◌, ◌⊎◌, ℕ, zero, suc, Bool, false, not, ◌&&◌, ◌==◌, min, nat_le, nat_lt, Option, Some, None, List, [], ◌∷◌, if◌then◌else◌}
use Rattle.std.specs.Option.{option_map}
use Rattle.ir_trees.specs.declared.ir.heads.Head.{Head}
use Rattle.ir_trees.specs.declared.ir.heads.Head.TheVariants as H
use Rattle.ir_trees.specs.declared.ir.heads.Variable.{Variable}
use Rattle.ir_trees.specs.declared.ir.kinds.GenericArg.{GenericArg}
use Rattle.ir_trees.specs.Syntax.Trees.{Tree, erase, holds, tree_holds}
use Rattle.ir_trees.specs.Syntax.Binders.{escapes}
use Rattle.ir_trees.specs.Unification.Substitutions.{alone, is_placeholder_above, same_variable}
use Rattle.candidate_eval.specs.Judges.States.{State, VariableInfo, valued_tree}
use Rattle.rounds_judge.specs.Equations.Binding.{occurs, single, numbered}
use Rattle.candidate_rounds.specs.Evaluators.Inferences.{Inference}
use Rattle.candidate_rounds.specs.Evaluators.Known.{is_open}

-- the one variable's value, where the variable stands in its own sort
abbrev pub single_arg : Variable → GenericArg → Head → Option GenericArg
single_arg v x (H.Infer w) = if same_variable v w then Some x else None
single_arg v x _ = None

-- the member of that number is another; nothing, where there is none
abbrev pub with_member : {A : Type 0} → List A → ℕ → (A → A) → List A
with_member [] n f = []
with_member (x ∷ xs) zero f = f x ∷ xs
with_member (x ∷ xs) (suc n) f = x ∷ with_member xs n f

-- the members from that number on and up to below the other, each told its number; the others stay
abbrev pub within : {A : Type 0} → (ℕ → A → A) → ℕ → ℕ → ℕ → List A → List A
within f first end n [] = []
within f first end n (x ∷ xs) = (if nat_le first n && nat_lt n end then f n x else x) ∷ within f first end (suc n) xs

-- the first so many members, each told its number; the others stay
abbrev pub partly : {A : Type 0} → (ℕ → A → A) → ℕ → ℕ → List A → List A
partly f n zero xs = xs
partly f n (suc k) [] = []
partly f n (suc k) (x ∷ xs) = f n x ∷ partly f (suc n) k xs

-- The variable of that number is another.
abbrev pub with_info : State → ℕ → (VariableInfo → VariableInfo) → State
with_info S n f = record S { variables = with_member S.variables n f }

-- What a variable of number m is, once that variable has the value, but for its universe; and the universe alone.

abbrev pub with_its_value : Variable → Tree → ℕ → VariableInfo → VariableInfo
with_its_value v t m i = record i { value = if m == v.number then Some t else option_map (valued_tree (single v t)) i.value }

abbrev pub with_its_universe : ℕ → Tree → ℕ → VariableInfo → VariableInfo
with_its_universe u t m i = record i { universe = if occurs m t then min i.universe u else i.universe }

-- The variables of these numbers have the values that they have then; all have.

abbrev pub with_values_within : ℕ → ℕ → Variable → Tree → State → State
with_values_within first end v t S = record S { variables = within (with_its_value v t) first end 0 S.variables }

abbrev pub with_values : Variable → Tree → State → State
with_values v t S = record S { variables = numbered (with_its_value v t) 0 S.variables }

-- The first so many variables have the universes that they have then; all have.

abbrev pub with_universes_up_to : ℕ → ℕ → Tree → State → State
with_universes_up_to k u t S = record S { variables = partly (with_its_universe u t) 0 k S.variables }

abbrev pub with_universes : ℕ → Tree → State → State
with_universes u t S = record S { variables = numbered (with_its_universe u t) 0 S.variables }

-- All variables are what they are once that variable, of that universe, has the value.
abbrev pub with_all_renewed : Variable → ℕ → Tree → State → State
with_all_renewed v u t S = with_universes u t (with_values v t S)

-- Values in which a variable stands may be at that number; or it is the number of the variable that gets the value, and none stands in that.
abbrev pub IsRoom : Inference → ℕ → Variable → Tree → Type 0
IsRoom s n v t = ((s.first_open ≤ n) × (n < s.end_open)) ⊎ ((n ≡ v.number) × (tree_holds is_open t ≡ false))

-- The tree may be the value of a variable of that number and universe, as far as its sort isn't asked for.
abbrev pub allows : ℕ → ℕ → Tree → Bool
allows n u t = not (occurs n t) && (not (escapes 0 (alone t)) && not (holds (is_placeholder_above u) (erase (alone t))))

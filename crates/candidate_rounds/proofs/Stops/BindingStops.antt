-- Why a variable doesn't get a value.
use Rattle.std.proofs.Common.{◌≡◌, inl, inr, ℕ, zero, suc, ◌+◌, ◌≤◌, true, List, [], ◌∷◌, length, map, Some, None, Option, Result, Ok, Err, IfErr, slice_get, refl, sym, ◌∙◌, ap, subst, arith, if◌then◌else◌}
use Rattle.std.specs.Option.{option_map}
use Rattle.std.proofs.lemmas.List.{length-map}
use Rattle.std.proofs.lemmas.Option.{slice_get-map}
use Rattle.ir_trees.specs.declared.ir.heads.Variable.{Variable}
use Rattle.ir_trees.specs.declared.ir.kinds.GenericArg.{GenericArg}
use Rattle.ir_trees.specs.declared.ir.stop.Stop.{Stop}
use Rattle.ir_trees.specs.declared.ir.stop.Stop.TheVariants.{Memory}
use Rattle.ir_trees.specs.Declarations.Context.{Context}
use Rattle.ir_trees.specs.Instantiation.Folds.{IsArg, arg_tree}
use Rattle.ir_trees.specs.Syntax.Trees.{Tree}
use Rattle.candidate_eval.specs.declared.eval.mode.TypingMode.{TypingMode}
use Rattle.candidate_eval.specs.declared.eval.variable.VariableKind.{VariableKind}
use Rattle.candidate_eval.specs.Judges.States.{State, value_in, value_of, valued_tree}
use Rattle.candidate_rounds.specs.declared.rounds.inference.Entry.{Entry}
use Rattle.rounds_judge.specs.Equations.Binding.{numbered, single}
use Rattle.candidate_rounds.specs.Calls.Assigning.{with_its_value, with_values, within}
use Rattle.candidate_rounds.specs.Evaluators.Inferences.{Inference, IsFullAt, is_of_kind}
use Rattle.candidate_rounds.specs.Evaluators.Known.{info_of, state_of}
use Rattle.candidate_rounds.specs.Evaluators.Stopping.{IsBindingStop, IsRegionsStop, IsRenewalStop, IsTreeStop, no_memory, many_variables, not_noted, of_renewed, of_value, no_room}
use Rattle.candidate_rounds.proofs.Equations.Assigning.{above-range, get-below}
use Rattle.candidate_rounds.proofs.Equations.Renewing.{ValuesSoFar, so-far-value}

-- The state has the value that is kept.
pub value-there : (ts : List Tree) (m : TypingMode) (s : Inference) (n : ℕ) (e : Entry) (y : GenericArg) → slice_get s.variables n ≡ Some e → e.value ≡ Some y → value_of (state_of ts m s) n ≡ Some (arg_tree ts y)
value-there ts m s n e y g f = ap value_in (slice_get-map (info_of ts) s.variables n ∙ ap (option_map (info_of ts)) g) ∙ ap (option_map (arg_tree ts)) f

-- A growth was refused.
pub not-noted : {A : Type 0} (ts : List Tree) (S : State) (v : Variable) (t : Tree) (n : ℕ) (r : Result A Stop) → IfErr r (λ s. s ≡ Memory) → IfErr r (λ s. IsRenewalStop ts S v t n s)
not-noted ts S v t n (Ok a) k = tt
not-noted ts S v t n (Err s) k = subst (λ x. IsRenewalStop ts S v t n x) (sym k) not_noted

-- A variable whose number is above those that were renewed has the value that it had.

within-get : {A : Type 0} (f : ℕ → A → A) (first end n k : ℕ) (xs : List A) → end ≤ n + k → slice_get (within f first end n xs) k ≡ slice_get xs k
within-get f first end n k [] l = refl
within-get f first end n zero (x ∷ xs) l = ap (λ b. Some (if b then f n x else x)) (above-range first end n (omega (arith, l)))
within-get f first end n (suc k) (x ∷ xs) l = within-get f first end (suc n) k xs (omega (arith, l))

module _ (a b : Context) (s t : Inference) (v : Variable) (x : GenericArg) (first n : ℕ) (h : ValuesSoFar a b s t v x first n) (i : IsArg a.trees x) (m : TypingMode) where
  value-still : value_of (state_of b.trees m t) n ≡ value_of (state_of a.trees m s) n
  value-still =
      ap (λ (S : State). value_of S n) (h.renewed m)
      ∙ ap value_in (within-get (with_its_value v (arg_tree a.trees x)) first n 0 n (state_of a.trees m s).variables (omega arith))

  -- So why it wasn't renewed is said of the state at first.
  pub renewal-before : (ts : List Tree) (z : Stop) → IsRenewalStop ts (state_of b.trees m t) v (arg_tree b.trees x) n z → IsBindingStop ts (state_of a.trees m s) v (arg_tree a.trees x) z
  renewal-before ts z not_noted = no_memory
  renewal-before ts z (of_value u apart is c) =
      of_renewed n
      (of_value u apart (sym value-still ∙ is)
      (subst (λ w. IsTreeStop ts (valued_tree (single v w) u) z) (so-far-value a b s t v x first n h i).1 c))

-- The variable itself gets the value, unless a growth is refused.
pub own-renewal : {A : Type 0} (ts : List Tree) (S T : State) (v : Variable) (t u : Tree) (r : Result A Stop) → IfErr r (λ z. IsRenewalStop ts S v t v.number z) → IfErr r (λ z. IsBindingStop ts T v u z)
own-renewal ts S T v t u (Ok a) k = tt
own-renewal ts S T v t u (Err z) k = at z k
  where
    at : (z : Stop) → IsRenewalStop ts S v t v.number z → IsBindingStop ts T v u z
    at z not_noted = no_memory
    at z (of_value w apart is c) = absurd (apart refl)

-- Too many variables are there.

pub full-binding : (ts : List Tree) (S : State) (v : Variable) (t : Tree) (n : ℕ) (z : Stop) → n ≤ length S.variables → IsFullAt n z → IsBindingStop ts S v t z
full-binding ts S v t n z l (inl e) = subst (λ x. IsBindingStop ts S v t x) (sym e) no_memory
full-binding ts S v t n z l (inr k) = subst (λ x. IsBindingStop ts S v t x) (sym k.0) (many_variables (omega (arith, l, k.1)))

-- the number of a variable that is there
pub number-below : (ts : List Tree) (m : TypingMode) (s : Inference) (k : VariableKind) (n : ℕ) → is_of_kind k (slice_get s.variables n) ≡ true → n ≤ length (state_of ts m s).variables
number-below ts m s k n e = at (slice_get s.variables n) refl e
  where
    at : (o : Option Entry) → slice_get s.variables n ≡ o → is_of_kind k o ≡ true → n ≤ length (map (info_of ts) s.variables)
    at None g f = cc
    at (Some d) g f =
        let l = get-below s.variables n d g in
        let many = length-map s.variables (info_of ts) in
        omega (arith, l, many)

length-numbered : {A B : Type 0} (f : ℕ → A → B) (n : ℕ) (xs : List A) → length (numbered f n xs) ≡ length xs
length-numbered f n [] = refl
length-numbered f n (x ∷ xs) = ap suc (length-numbered f (suc n) xs)

-- there are as many once values were renewed
pub as-many : (ts us : List Tree) (m : TypingMode) (s t : Inference) (v : Variable) (x : Tree) (S : State) → state_of us m t ≡ with_values v x S → S ≡ state_of ts m s → length t.variables ≤ length (state_of ts m s).variables
as-many ts us m s t v x S e f =
    let a = length-map t.variables (info_of us) in
    let b : length (state_of us m t).variables ≡ length S.variables = ap (λ (T : State). length T.variables) e ∙ length-numbered (with_its_value v x) 0 S.variables in
    let c : length S.variables ≡ length (state_of ts m s).variables = ap (λ (T : State). length T.variables) f in
    omega (arith, a, b, c)

-- Two regions

pub unrecorded : {A : Type 0} (ts : List Tree) (x y : Tree) (r : Result A Stop) → IfErr r (λ s. s ≡ Memory) → IfErr r (λ s. IsRegionsStop ts x y s)
unrecorded ts x y (Ok a) k = tt
unrecorded ts x y (Err s) k = subst (λ z. IsRegionsStop ts x y z) (sym k) no_room

-- Steps one after the other.
use Rattle.std.proofs.Common.{◌≡◌, Bool, true, false, List, [], ◌∷◌, ◌++◌, Option, Some, None, refl, sym, ◌∙◌, ap, append_assoc, if◌then◌else◌}
use Rattle.candidate_eval.specs.Knowability.Orphan.{Item, Step, Class, Entry, entry, entries, first_step, left}
use Rattle.candidate_eval.specs.Calls.Walk.{still}

module _ {S E : Type 0} (decide : Class E → Bool) (classify : Item E → Class E) where
  none-of : (b : Bool) (x : Step S E) (o : Option (Step S E)) → (if b then Some x else o) ≡ None → (b ≡ false) × (o ≡ None)
  none-of true x o e = cc
  none-of false x o e = (refl, e)

  pub first-append : (xs ys : List (Step S E)) → first_step decide classify xs ≡ None
      → first_step decide classify (xs ++ ys) ≡ first_step decide classify ys
  first-append [] ys e = refl
  first-append (x ∷ xs) ys e =
      let n = none-of (decide (classify x.item)) x (first_step decide classify xs) e in
      ap (λ (b : Bool). if b then Some x else first_step decide classify (xs ++ ys)) n.0 ∙ first-append xs ys n.1

  pub found-append : (xs ys : List (Step S E)) (x : Step S E) → first_step decide classify xs ≡ Some x
      → first_step decide classify (xs ++ ys) ≡ Some x
  found-append [] ys x e = cc
  found-append (y ∷ xs) ys x e = at (decide (classify y.item)) e (found-append xs ys x)
    where
      at : (b : Bool) → (if b then Some y else first_step decide classify xs) ≡ Some x
          → (first_step decide classify xs ≡ Some x → first_step decide classify (xs ++ ys) ≡ Some x)
          → (if b then Some y else first_step decide classify (xs ++ ys)) ≡ Some x
      at true f g = f
      at false f g = g f

  pub entries-append : (b : Bool) (xs ys : List (Step S E))
      → entries b classify (xs ++ ys) ≡ entries b classify xs ++ entries (still b xs) classify ys
  entries-append b [] ys = refl
  entries-append b (x ∷ xs) ys =
      ap (λ (es : List Entry). entry b (classify x.item) ++ es) (entries-append false xs ys ∙ ap (λ (c : Bool). entries false classify xs ++ entries c classify ys) (still-false xs))
      ∙ sym (append_assoc (entry b (classify x.item)) (entries false classify xs) (entries false classify ys))
    where
      still-false : (xs : List (Step S E)) → still false xs ≡ false
      still-false [] = refl
      still-false (x ∷ xs) = refl

pub left-append : {S E : Type 0} (s : S) (xs ys : List (Step S E)) → left s (xs ++ ys) ≡ left (left s xs) ys
left-append s [] ys = refl
left-append s (x ∷ xs) ys = left-append x.after xs ys

-- what is left doesn't depend on the begin where there is a step
pub left-some : {S E : Type 0} (s t : S) (xs : List (Step S E)) → still true xs ≡ false → left s xs ≡ left t xs
left-some s t [] e = cc
left-some s t (x ∷ xs) e = refl

pub still-some : {S E : Type 0} (b : Bool) (xs : List (Step S E)) → still true xs ≡ false → still b xs ≡ false
still-some b [] e = cc
still-some b (x ∷ xs) e = refl

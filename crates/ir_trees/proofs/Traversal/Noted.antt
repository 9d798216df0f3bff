-- What is so of all that a walk notes.
use Rattle.std.proofs.Common.{◌≡◌, inl, inr, ℕ, Bool, true, false, List, [], ◌∷◌, ◌++◌, nat_eq, refl, sym, ◌∙◌, subst}
use Rattle.std.specs.Prelude.{◌&&◌, ◌||◌}
use Rattle.std.specs.List.{list_any}
use Rattle.std.proofs.lemmas.Bool.{and_parts, eqb-true}
use Rattle.ir_trees.specs.Calls.Walked.{Each, MayBeNoted}

module _ {A : Type 0} (P : A → Type 0) where
  each-added : (xs : List A) (x : A) → Each P xs → P x → Each P (xs ++ x ∷ [])
  each-added [] x e p = (p, tt)
  each-added (y ∷ xs) x e p = (e.0, each-added xs x e.1 p)

  pub each-of-none : (xs : List A) → xs ≡ [] → Each P xs
  each-of-none xs e = subst (Each P) (sym e) tt

  -- of each noted key, and of that one, it is so: then of each that is noted then
  pub each-noted : (old new : List A) (x : A) → MayBeNoted x old new → Each P old → P x → Each P new
  each-noted old new x (inl q) e p = subst (Each P) (sym q) e
  each-noted old new x (inr q) e p = subst (Each P) (sym q) (each-added old x e p)

  -- a key that is noted, by an equality of keys
  module _ (eq : A → A → Bool) (same : (x y : A) → eq x y ≡ true → x ≡ y) where
    noted : (xs : List A) (x : A) → Each P xs → list_any (eq x) xs ≡ true → P x
    noted [] x e q = absurd cc
    noted (y ∷ xs) x e q = at (eq x y) refl (noted xs x e.1) q
      where
        at : (b : Bool) → eq x y ≡ b → (list_any (eq x) xs ≡ true → P x) → b || list_any (eq x) xs ≡ true → P x
        at true r f s = subst P (sym (same x y r)) e.0
        at false r f s = f s

    noted-is : (xs : List A) (x : A) (b : Bool) → Each P xs → b ≡ list_any (eq x) xs → b ≡ true → P x
    noted-is xs x b e q t = noted xs x e (sym q ∙ t)

pub number-noted : (P : ℕ → Type 0) (ns : List ℕ) (n : ℕ) (b : Bool) → Each P ns → b ≡ list_any (nat_eq n) ns → b ≡ true → P n
number-noted P = noted-is P nat_eq eqb-true

pair-same : (p q : ℕ × ℕ) → nat_eq p.0 q.0 && nat_eq p.1 q.1 ≡ true → p ≡ q
pair-same p q e =
    let f = and_parts (nat_eq p.0 q.0) (nat_eq p.1 q.1) e in
    let first = eqb-true p.0 q.0 f.0 in let second = eqb-true p.1 q.1 f.1 in λ i. (first i, second i)

pub pair-noted : (P : ℕ × ℕ → Type 0) (ps : List (ℕ × ℕ)) (p : ℕ × ℕ) (b : Bool) → Each P ps → b ≡ list_any (λ q. nat_eq p.0 q.0 && nat_eq p.1 q.1) ps → b ≡ true → P p
pair-noted P = noted-is P (λ p q. nat_eq p.0 q.0 && nat_eq p.1 q.1) pair-same

-- Two lists that show the same, place by place.
use Rattle.std.proofs.Common.{◌≡◌, refl, ap, ◌∙◌, arith, ℕ, zero, suc, ◌<◌, ◌≤◌, ◌+◌, ◌⊎◌, inl, inr, List, [], ◌∷◌, map, length, IsTrue, ◌↔◌, Bool, true, false, slice_index_or, eq-or-lt_of_le}
use Rattle.ir_trees.specs.declared.ir.kinds.Clause.{Clause}
use Rattle.ir_trees.specs.Syntax.Trees.{Tree}
use Rattle.ir_trees.specs.Syntax.Words.{ClauseListFits, IsClause}

length-shown : {A C : Type 0} (f : A → C) (xs ys : List A) → map f xs ≡ map f ys → length xs ≡ length ys
length-shown f [] [] e = refl
length-shown f [] (y ∷ ys) e = cc
length-shown f (x ∷ xs) [] e = cc
length-shown f (x ∷ xs) (y ∷ ys) e =
    let rest : map f xs ≡ map f ys = cc in
    ap suc (length-shown f xs ys rest)

shown-at : {A C : Type 0} (f : A → C) (xs ys : List A) (d : A) (i : ℕ) → map f xs ≡ map f ys → f (slice_index_or xs i d) ≡ f (slice_index_or ys i d)
shown-at f [] [] d i e = refl
shown-at f [] (y ∷ ys) d i e = cc
shown-at f (x ∷ xs) [] d i e = cc
shown-at f (x ∷ xs) (y ∷ ys) d zero e = cc
shown-at f (x ∷ xs) (y ∷ ys) d (suc i) e =
    let rest : map f xs ≡ map f ys = cc in
    shown-at f xs ys d i rest

shown-if : {A C : Type 0} (f : A → C) (xs ys : List A) (d : A) → length xs ≡ length ys
    → ((k : ℕ) → k < length xs → f (slice_index_or xs k d) ≡ f (slice_index_or ys k d)) → map f xs ≡ map f ys
shown-if f [] [] d l h = refl
shown-if f [] (y ∷ ys) d l h = cc
shown-if f (x ∷ xs) [] d l h = cc
shown-if f (x ∷ xs) (y ∷ ys) d l h =
    let rest : length xs ≡ length ys = cc in
    let here : f x ≡ f y = h 0 (omega arith) in
    let more = shown-if f xs ys d rest (λ k b. h (suc k) (omega (arith, b))) in
    ap (λ z. z ∷ map f xs) here ∙ ap (λ zs. f y ∷ zs) more

pub lengths_differ : {A C : Type 0} (f : A → C) (xs ys : List A) → (length xs ≡ length ys → ⊥) → IsTrue false ↔ (map f xs ≡ map f ys)
lengths_differ f xs ys l = (λ t. absurd cc, λ e. absurd (l (length-shown f xs ys e)))

pub place_differs : {A C : Type 0} (f : A → C) (xs ys : List A) (d : A) (i : ℕ) (b : Bool)
    → IsTrue b ↔ (f (slice_index_or xs i d) ≡ f (slice_index_or ys i d)) → b ≡ false → IsTrue false ↔ (map f xs ≡ map f ys)
place_differs f xs ys d i b r e = (λ t. absurd cc, λ s. absurd (let t = r.1 (shown-at f xs ys d i s) in cc))

pub one_more_place : {A C : Type 0} (f : A → C) (xs ys : List A) (d : A) (i : ℕ)
    → ((k : ℕ) → k < i → f (slice_index_or xs k d) ≡ f (slice_index_or ys k d)) → f (slice_index_or xs i d) ≡ f (slice_index_or ys i d)
    → (k : ℕ) → k < i + 1 → f (slice_index_or xs k d) ≡ f (slice_index_or ys k d)
one_more_place f xs ys d i h e k b = at (eq-or-lt_of_le (omega (arith, b)))
  where
    at : (k ≡ i) ⊎ (k < i) → f (slice_index_or xs k d) ≡ f (slice_index_or ys k d)
    at (inl q) = rw q e
    at (inr q) = h k q

pub all_places : {A C : Type 0} (f : A → C) (xs ys : List A) (d : A) (i : ℕ) → length xs ≡ length ys → length xs ≤ i
    → ((k : ℕ) → k < i → f (slice_index_or xs k d) ≡ f (slice_index_or ys k d)) → IsTrue true ↔ (map f xs ≡ map f ys)
all_places f xs ys d i l n h = (λ t. shown-if f xs ys d l (λ k b. h k (omega (arith, b, n))), λ e. refl)

-- a number of a list of clauses is a clause's
pub clause_there : (ts : List Tree) (xs : List Clause) (d : Clause) (i : ℕ) → ClauseListFits ts xs → i < length xs → IsClause ts (slice_index_or xs i d)
clause_there ts [] d i f l = absurd (omega (arith, l))
clause_there ts (x ∷ xs) d zero f l = cc
clause_there ts (x ∷ xs) d (suc i) f l =
    let rest : ClauseListFits ts xs = cc in
    let m : i < length xs = omega (arith, l) in
    clause_there ts xs d i rest m

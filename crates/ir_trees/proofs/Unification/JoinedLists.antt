-- Two lists, joined one after the other.
use Rattle.std.proofs.Common.{◌≡◌, ℕ, zero, suc, ◌+◌, ◌<◌, ◌≤◌, Bool, true, false, List, [], ◌∷◌, ◌++◌, length, drop, get_or, Option, Some, None, refl, sym, ◌∙◌, ap, arith}
use Rattle.std.specs.Prelude.{map, slice_get, if◌then◌else◌}
use Rattle.std.proofs.Math.Seq.{drop-cons}
use Rattle.std.proofs.lemmas.List.{append_assoc, append-nil, length-append}
use Rattle.std.proofs.lemmas.Option.{slice_get-get_or, slice_get_within, get_or_from_slice_get}
use Rattle.ir_trees.specs.Unification.ImplClasses.{comes_first, joined, joined_from}

abbrev pub without_places : {X : Type 0} → List (ℕ × X) → List X
without_places {X = X} xs = map (λ (x : ℕ × X). x.1) xs

-- so many of the first and of the second are joined
pub record JoinedSoFar {X : Type 0} (xs ys : List (ℕ × X)) (i j : ℕ) (done : List X) : Type 0 where
  pub of_first : i ≤ length xs
  pub of_second : j ≤ length ys
  pub count : length done ≡ i + j
  pub left : done ++ without_places (joined (drop i xs) (drop j ys)) ≡ without_places (joined xs ys)

pub none-joined : {X : Type 0} (xs ys : List (ℕ × X)) → JoinedSoFar xs ys 0 0 []
none-joined xs ys = record { of_first = omega arith; of_second = omega arith; count = refl; left = refl }

past-drop : {X : Type 0} (xs : List X) (i : ℕ) → length xs ≤ i → drop i xs ≡ []
past-drop [] zero l = refl
past-drop [] (suc i) l = refl
past-drop (x ∷ xs) zero l = absurd (omega (arith, l))
past-drop (x ∷ xs) (suc i) l = past-drop xs i (omega (arith, l))

pub all-joined : {X : Type 0} (xs ys : List (ℕ × X)) (i j : ℕ) (done : List X) → JoinedSoFar xs ys i j done → length xs ≤ i → length ys ≤ j
    → done ≡ without_places (joined xs ys)
all-joined {X = X} xs ys i j done s l m =
    let e : joined (drop i xs) (drop j ys) ≡ [] = ap (λ (zs : List (ℕ × X)). joined zs (drop j ys)) (past-drop xs i l) ∙ past-drop ys j m in
    sym (append-nil done) ∙ (ap (λ (zs : List (ℕ × X)). done ++ without_places zs) (sym e) ∙ s.left)

none-past : {X : Type 0} (xs : List X) (i : ℕ) → slice_get xs i ≡ None → length xs ≤ i
none-past [] i q = omega arith
none-past (x ∷ xs) zero q = absurd cc
none-past (x ∷ xs) (suc i) q =
    let l = none-past xs i q in
    omega (arith, l)

-- an element of a list that has so many
nothing : {X : Type 0} (xs : List X) (i : ℕ) → i < length xs → X
nothing [] i l = absurd (omega (arith, l))
nothing (x ∷ xs) i l = x

-- the next of the first
pub first-there : {X : Type 0} (xs ys : List (ℕ × X)) (i j : ℕ) → comes_first (slice_get xs i) (slice_get ys j) ≡ true → i < length xs
first-there {X = X} xs ys i j e = by (slice_get xs i) refl e
  where
    by : (o : Option (ℕ × X)) → slice_get xs i ≡ o → comes_first o (slice_get ys j) ≡ true → i < length xs
    by None q e = absurd cc
    by (Some x) q e = slice_get_within xs i x q

pub second-there : {X : Type 0} (xs ys : List (ℕ × X)) (i j : ℕ) → comes_first (slice_get xs i) (slice_get ys j) ≡ false → i < length xs → j < length ys
second-there {X = X} xs ys i j e l = by (slice_get xs i) (slice_get ys j) refl refl e
  where
    by : (o p : Option (ℕ × X)) → slice_get xs i ≡ o → slice_get ys j ≡ p → comes_first o p ≡ false → j < length ys
    by None (Some y) q r e = slice_get_within ys j y r
    by (Some x) (Some y) q r e = slice_get_within ys j y r
    by (Some x) None q r e = absurd cc
    by None None q r e = absurd (let n : None ≡ Some (get_or xs i (nothing xs i l)) = sym q ∙ slice_get-get_or xs i (nothing xs i l) l in cc)

by-heads : {X : Type 0} (x : ℕ × X) (r : List (ℕ × X) → List (ℕ × X)) (ys : List (ℕ × X)) (j : ℕ) (o : Option (ℕ × X)) → slice_get ys j ≡ o → comes_first (Some x) o ≡ true
    → joined_from x r (drop j ys) ≡ x ∷ r (drop j ys)
by-heads {X = X} x r ys j None q e = by (drop j ys) (past-drop ys j (none-past ys j q))
  where
    by : (zs : List (ℕ × X)) → zs ≡ [] → joined_from x r zs ≡ x ∷ r zs
    by [] e = refl
    by (z ∷ zs) e = absurd cc
by-heads {X = X} x r ys j (Some y) q e =
    let there : drop j ys ≡ y ∷ drop (suc j) ys = drop-cons ys j y (slice_get_within ys j y q) ∙ ap (λ z. z ∷ drop (suc j) ys) (get_or_from_slice_get ys j y y q) in
    ap (joined_from x r) there ∙ (ap (λ (b : Bool). if b then x ∷ r (y ∷ drop (suc j) ys) else y ∷ joined_from x r (drop (suc j) ys)) e ∙ ap (λ zs. x ∷ r zs) (sym there))

first-step : {X : Type 0} (xs ys : List (ℕ × X)) (i j : ℕ) (x : ℕ × X) → slice_get xs i ≡ Some x → comes_first (slice_get xs i) (slice_get ys j) ≡ true
    → joined (drop i xs) (drop j ys) ≡ x ∷ joined (drop (suc i) xs) (drop j ys)
first-step {X = X} xs ys i j x q e =
    let there : drop i xs ≡ x ∷ drop (suc i) xs = drop-cons xs i x (slice_get_within xs i x q) ∙ ap (λ z. z ∷ drop (suc i) xs) (get_or_from_slice_get xs i x x q) in
    ap (λ zs. joined zs (drop j ys)) there
    ∙ by-heads x (joined (drop (suc i) xs)) ys j (slice_get ys j) refl (sym (ap (λ o. comes_first o (slice_get ys j)) q) ∙ e)

second-step : {X : Type 0} (xs ys : List (ℕ × X)) (i j : ℕ) (y : ℕ × X) → slice_get ys j ≡ Some y → comes_first (slice_get xs i) (slice_get ys j) ≡ false
    → joined (drop i xs) (drop j ys) ≡ y ∷ joined (drop i xs) (drop (suc j) ys)
second-step {X = X} xs ys i j y q e = ap (joined (drop i xs)) there ∙ by (slice_get xs i) refl (sym (ap (comes_first (slice_get xs i)) q) ∙ e)
  where
    there : drop j ys ≡ y ∷ drop (suc j) ys
    there = drop-cons ys j y (slice_get_within ys j y q) ∙ ap (λ z. z ∷ drop (suc j) ys) (get_or_from_slice_get ys j y y q)

    by : (o : Option (ℕ × X)) → slice_get xs i ≡ o → comes_first o (Some y) ≡ false → joined (drop i xs) (y ∷ drop (suc j) ys) ≡ y ∷ joined (drop i xs) (drop (suc j) ys)
    by None p e =
        let none : drop i xs ≡ [] = past-drop xs i (none-past xs i p) in
        ap (λ zs. joined zs (y ∷ drop (suc j) ys)) none ∙ ap (λ zs. y ∷ joined zs (drop (suc j) ys)) (sym none)
    by (Some x) p e =
        let some : drop i xs ≡ x ∷ drop (suc i) xs = drop-cons xs i x (slice_get_within xs i x p) ∙ ap (λ z. z ∷ drop (suc i) xs) (get_or_from_slice_get xs i x x p) in
        ap (λ zs. joined zs (y ∷ drop (suc j) ys)) some
        ∙ (ap (λ (b : Bool). if b then x ∷ joined (drop (suc i) xs) (y ∷ drop (suc j) ys) else y ∷ joined_from x (joined (drop (suc i) xs)) (drop (suc j) ys)) e
        ∙ ap (λ zs. y ∷ joined zs (drop (suc j) ys)) (sym some))

pub first-joined : {X : Type 0} (xs ys : List (ℕ × X)) (i j : ℕ) (done : List X) (x d : ℕ × X) → JoinedSoFar xs ys i j done → comes_first (slice_get xs i) (slice_get ys j) ≡ true
    → x ≡ get_or xs i d → JoinedSoFar xs ys (i + 1) j (done ++ x.1 ∷ [])
first-joined {X = X} xs ys i j done x d s e q =
    let l = first-there xs ys i j e in
    let next : i + 1 ≡ suc i = omega arith in
    let step = first-step xs ys i j x (slice_get-get_or xs i d l ∙ ap Some (sym q)) e in
    record {
      of_first = omega (arith, l);
      of_second = s.of_second;
      count = length-append done (x.1 ∷ []) ∙ omega (arith, s.count);
      left = append_assoc done (x.1 ∷ []) (without_places (joined (drop (i + 1) xs) (drop j ys)))
          ∙ (ap (λ (n : ℕ). done ++ without_places (x ∷ joined (drop n xs) (drop j ys))) next ∙ (ap (λ zs. done ++ without_places zs) (sym step) ∙ s.left));
    }

pub second-joined : {X : Type 0} (xs ys : List (ℕ × X)) (i j : ℕ) (done : List X) (y d : ℕ × X) → JoinedSoFar xs ys i j done → comes_first (slice_get xs i) (slice_get ys j) ≡ false
    → j < length ys → y ≡ get_or ys j d → JoinedSoFar xs ys i (j + 1) (done ++ y.1 ∷ [])
second-joined {X = X} xs ys i j done y d s e l q =
    let next : j + 1 ≡ suc j = omega arith in
    let step = second-step xs ys i j y (slice_get-get_or ys j d l ∙ ap Some (sym q)) e in
    record {
      of_first = s.of_first;
      of_second = omega (arith, l);
      count = length-append done (y.1 ∷ []) ∙ omega (arith, s.count);
      left = append_assoc done (y.1 ∷ []) (without_places (joined (drop i xs) (drop (j + 1) ys)))
          ∙ (ap (λ (n : ℕ). done ++ without_places (y ∷ joined (drop i xs) (drop n ys))) next ∙ (ap (λ zs. done ++ without_places zs) (sym step) ∙ s.left));
    }

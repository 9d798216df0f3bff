-- Places of numbers, and the numbers of the variables in trees, in the order of a walk.
use Rattle.std.proofs.Common.{◌≡◌, ◌≤◌, ◌<◌, ◌+◌, ◌==◌, ℕ, suc, Bool, true, false, nat_lt, List, [], ◌∷◌, ◌++◌, length, map, drop, slice_index_or, append_assoc, refl, sym, ◌∙◌, ap, arith, if◌then◌else◌}
use Rattle.std.specs.Prelude.{◌||◌}
use Rattle.std.proofs.lemmas.List.{append-nil}
use Rattle.std.proofs.lemmas.Bool.{leb-true, leb-false}
use Rattle.ir_trees.specs.declared.ir.kinds.Clause.{Clause}
use Rattle.ir_trees.specs.Unification.Substitutions.{alone}
use Rattle.ir_trees.specs.Syntax.Trees.{Tree}
use Rattle.ir_trees.specs.Syntax.Words.{clause_tree}
use Rattle.rounds_judge.specs.Obligations.Responding.{is_seen, place_of, with_numbers, with_numbers_of}
use Rattle.candidate_rounds.proofs.Snapshots.Undoing.{drop-one, drop-beyond}

-- A number's place is found by a look at one number after the other.

abbrev pub IsAfter : List ℕ → ℕ → ℕ → Type 0
IsAfter ns n i = place_of ns n ≡ i + place_of (drop i ns) n

pub not-here : (ns : List ℕ) (n i d : ℕ) → IsAfter ns n i → i < length ns → (slice_index_or ns i d == n) ≡ false → IsAfter ns n (i + 1)
not-here ns n i d a l e =
    let p = ap (λ ms. place_of ms n) (drop-one ns i d l) ∙ ap (λ (b : Bool). if b then 0 else suc (place_of (drop (suc i) ns) n)) e in
    let q : i + 1 ≡ suc i = omega arith in
    let r = ap (λ j. place_of (drop j ns) n) q in
    omega (arith, a, p, r)

pub here-it-is : (ns : List ℕ) (n i d : ℕ) → IsAfter ns n i → i < length ns → (slice_index_or ns i d == n) ≡ true → i ≡ place_of ns n
here-it-is ns n i d a l e =
    let p = ap (λ ms. place_of ms n) (drop-one ns i d l) ∙ ap (λ (b : Bool). if b then 0 else suc (place_of (drop (suc i) ns) n)) e in
    omega (arith, a, p)

pub nowhere : (ns : List ℕ) (n i : ℕ) → IsAfter ns n i → length ns ≤ i → i ≤ length ns → length ns ≡ place_of ns n
nowhere ns n i a l m = let p = ap (λ ms. place_of ms n) (drop-beyond ns i l) in omega (arith, a, p, l, m)

less-suc : (a b : ℕ) (x y : Bool) → nat_lt a b ≡ x → nat_lt (suc a) (suc b) ≡ y → x ≡ y
less-suc a b true true e f = refl
less-suc a b false false e f = refl
less-suc a b true false e f = let l = leb-true (suc a) b e in let m = leb-false (suc (suc a)) (suc b) f in absurd (omega (arith, l, m))
less-suc a b false true e f = let l = leb-false (suc a) b e in let m = leb-true (suc (suc a)) (suc b) f in absurd (omega (arith, l, m))

less-zero : (b : ℕ) (y : Bool) → nat_lt 0 (suc b) ≡ y → true ≡ y
less-zero b true f = refl
less-zero b false f = let m = leb-false 1 (suc b) f in absurd (omega (arith, m))

-- A number that was seen has a place among the others.
pub seen_is : (ns : List ℕ) (n : ℕ) → is_seen ns n ≡ nat_lt (place_of ns n) (length ns)
seen_is [] n = refl
seen_is (m ∷ ns) n = at (m == n) (seen_is ns n)
  where
    at : (b : Bool) → is_seen ns n ≡ nat_lt (place_of ns n) (length ns) → b || is_seen ns n ≡ nat_lt (if b then 0 else suc (place_of ns n)) (suc (length ns))
    at true e = less-zero (length ns) (nat_lt 0 (suc (length ns))) refl
    at false e = e ∙ less-suc (place_of ns n) (length ns) (nat_lt (place_of ns n) (length ns)) (nat_lt (suc (place_of ns n)) (suc (length ns))) refl refl

-- One clause after the other.

abbrev pub IsNoted : List Tree → List ℕ → List Clause → ℕ → List ℕ → Type 0
IsNoted ts from cs i ns = with_numbers_of ns (map (clause_tree ts) (drop i cs)) ≡ with_numbers_of from (map (clause_tree ts) cs)

pub one-noted : (ts : List Tree) (from : List ℕ) (cs : List Clause) (i : ℕ) (d : Clause) (ns ms : List ℕ) → IsNoted ts from cs i ns → i < length cs
    → ms ≡ with_numbers ns (alone (clause_tree ts (slice_index_or cs i d))) → IsNoted ts from cs (i + 1) ms
one-noted ts from cs i d ns ms e l q =
    let j : i + 1 ≡ suc i = omega arith in
    ap (λ k. with_numbers_of ms (map (clause_tree ts) (drop k cs))) j
    ∙ (ap (λ zs. with_numbers_of zs (map (clause_tree ts) (drop (suc i) cs))) q
    ∙ (ap (λ xs. with_numbers_of ns (map (clause_tree ts) xs)) (sym (drop-one cs i d l)) ∙ e))

pub all-noted : (ts : List Tree) (from : List ℕ) (cs : List Clause) (i : ℕ) (ns : List ℕ) → IsNoted ts from cs i ns → length cs ≤ i → ns ≡ with_numbers_of from (map (clause_tree ts) cs)
all-noted ts from cs i ns e l = ap (λ xs. with_numbers_of ns (map (clause_tree ts) xs)) (sym (drop-beyond cs i l)) ∙ e

-- What is kept of one number after the other.

abbrev pub IsMapped : {A B : Type 0} → (A → B) → List A → ℕ → List B → Type 0
IsMapped f xs i ys = ys ++ map f (drop i xs) ≡ map f xs

pub one-mapped : {A B : Type 0} (f : A → B) (xs : List A) (i : ℕ) (d : A) (ys zs : List B) (y : B) → IsMapped f xs i ys → i < length xs → y ≡ f (slice_index_or xs i d) → zs ≡ ys ++ y ∷ []
    → IsMapped f xs (i + 1) zs
one-mapped f xs i d ys zs y m l e q =
    let j : i + 1 ≡ suc i = omega arith in
    ap (λ k. zs ++ map f (drop k xs)) j
    ∙ (ap (λ us. us ++ map f (drop (suc i) xs)) q
    ∙ (append_assoc ys (y ∷ []) (map f (drop (suc i) xs))
    ∙ (ap (λ u. ys ++ u ∷ map f (drop (suc i) xs)) e ∙ (ap (λ us. ys ++ map f us) (sym (drop-one xs i d l)) ∙ m))))

pub all-mapped : {A B : Type 0} (f : A → B) (xs : List A) (i : ℕ) (ys : List B) → IsMapped f xs i ys → length xs ≤ i → ys ≡ map f xs
all-mapped f xs i ys m l = sym (append-nil ys) ∙ (ap (λ us. ys ++ map f us) (sym (drop-beyond xs i l)) ∙ m)

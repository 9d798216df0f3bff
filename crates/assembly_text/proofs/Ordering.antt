-- Impls that are put in order, each once.
use Rattle.std.proofs.Common.{◌≡◌, ◌+◌, ◌<◌, ◌≤◌, ℕ, Bool, true, false, cond, List, [], ◌∷◌, ◌↔◌, length, map, get_or, arith, refl, sym, ◌∙◌, ap, subst}
use Rattle.std.specs.Prelude.{nat_eq}
use Rattle.std.specs.Cmp.{IsEquivalence, nat_eq_equiv, on_equiv}
use Rattle.std.specs.List.{Contains, dedup, dedup_from}
use Rattle.std.specs.List.Sorted.{IsNonDecreasingBy, IsPermutation, IsSorted, IsStrictlyIncreasing}
use Rattle.std.specs.Ordering.{is_lt, nat_cmp}
use Rattle.std.proofs.lemmas.Bool.{eqb-true}
use Rattle.std.proofs.lemmas.List.{length-map}
use Rattle.std.proofs.lemmas.List.Kept.{Contains-dedup, Contains-from_dedup}
use Rattle.std.proofs.lemmas.List.Sorted.{Contains-permutation, IsPermutation-sym}
use Rattle.std.proofs.lemmas.Map.Keys.{IsStrictlyIncreasing-dedup}
use Rattle.std.proofs.Math.ListN.{get_or-map}
use Rattle.ir_trees.specs.declared.decl.contents.ImplId.{ImplId}
use Rattle.ir_trees.specs.contracts.decl.contents.ImplIdPartialEq.TheImpl.{eq-value}

abbrev number : ImplId → ℕ
number n = n.0

-- the equality that they derive
abbrev pub same_impl : ImplId → ImplId → Bool
same_impl = eq-value.it

same-equiv : IsEquivalence same_impl
same-equiv = on_equiv number nat_eq_equiv

same-is : (a b : ImplId) → same_impl a b ≡ true → a ≡ b
same-is a b e = ap (λ (n : ℕ). record { 0 = n }) (eqb-true a.0 b.0 e)

-- their numbers are those that are left of the numbers
numbers-from : (k : ImplId) (xs : List ImplId) → map number (dedup_from same_impl k xs) ≡ dedup_from nat_eq k.0 (map number xs)
numbers-from k [] = refl
numbers-from k (x ∷ xs) = at (nat_eq x.0 k.0) (numbers-from k xs) (numbers-from x xs)
  where
    at : (b : Bool) → map number (dedup_from same_impl k xs) ≡ dedup_from nat_eq k.0 (map number xs) → map number (dedup_from same_impl x xs) ≡ dedup_from nat_eq x.0 (map number xs)
        → map number (cond b (dedup_from same_impl k xs) (k ∷ dedup_from same_impl x xs)) ≡ cond b (dedup_from nat_eq k.0 (map number xs)) (k.0 ∷ dedup_from nat_eq x.0 (map number xs))
    at true e f = e
    at false e f = ap (λ ns. k.0 ∷ ns) f

numbers-once : (xs : List ImplId) → map number (dedup same_impl xs) ≡ dedup nat_eq (map number xs)
numbers-once [] = refl
numbers-once (x ∷ xs) = numbers-from x xs

not-less : (a b : ℕ) → b ≤ a → is_lt (nat_cmp a b) ≡ false
not-less a b l = grind arith

numbers-sorted : (xs : List ImplId) → IsNonDecreasingBy number xs → IsSorted nat_cmp (map number xs)
numbers-sorted xs h k d _ l =
    let within : k + 1 < length xs = omega (arith, l, length-map xs number) in
    let e : ImplId = record { 0 = d } in
    let up : number (get_or xs k e) ≤ number (get_or xs (k + 1) e) = h k (k + 1) e (omega arith) within in
    subst (λ (p : ℕ × ℕ). is_lt (nat_cmp p.0 p.1) ≡ false) (λ i. (sym (get_or-map number xs (k + 1) e) i, sym (get_or-map number xs k e) i))
    (not-less (number (get_or xs (k + 1) e)) (number (get_or xs k e)) up)

pub once-in-order : (xs ys : List ImplId) → IsNonDecreasingBy number xs → ys ≡ dedup same_impl xs → IsStrictlyIncreasing (map number ys)
once-in-order xs ys h e =
    subst IsStrictlyIncreasing (sym (ap (map number) e ∙ numbers-once xs)) (IsStrictlyIncreasing-dedup (map number xs) (numbers-sorted xs h))

pub once-the-same : (xs ys zs : List ImplId) → IsPermutation xs ys → zs ≡ dedup same_impl ys → (b : ImplId) → Contains zs b ↔ Contains xs b
once-the-same xs ys zs p e b = (
  (λ h. Contains-permutation ys xs b (IsPermutation-sym xs ys p) (Contains-from_dedup same_impl ys b (subst (λ (us : List ImplId). Contains us b) e h))),
  (λ h. subst (λ (us : List ImplId). Contains us b) (sym e) (Contains-dedup same-equiv same-is ys b (Contains-permutation xs ys b p h))),
)

-- Lists of arguments of which some come from another list.
use Rattle.std.proofs.Common.{◌≡◌, ℕ, zero, suc, ◌+◌, ◌<◌, ◌≤◌, List, [], ◌∷◌, ◌++◌, length, get_or, refl, sym, ap, ◌∙◌, arith, take}
use Rattle.std.proofs.lemmas.List.{take_more, take_all}
use Rattle.std.specs.Prelude.{if◌then◌else◌}
use Rattle.ir_trees.specs.declared.ir.kinds.GenericArg.{GenericArg}
use Rattle.ir_trees.specs.Hierarchy.Elaboration.{number_listed}
use Rattle.candidate_assembly.specs.Rules.Unsizing.{mixed_list}

pub mixed-length : (changed : List ℕ) (n : ℕ) (xs ys : List GenericArg) → length xs ≡ length ys → length (mixed_list changed n xs ys) ≡ length xs
mixed-length changed n [] ys e = refl
mixed-length changed n (x ∷ xs) [] e = absurd (omega (arith, e))
mixed-length changed n (x ∷ xs) (y ∷ ys) e = ap suc (mixed-length changed (suc n) xs ys (omega (arith, e)))

mixed-at : (changed : List ℕ) (n i m : ℕ) (xs ys : List GenericArg) (d : GenericArg) → m ≡ n + i → i < length xs → length xs ≡ length ys
    → get_or (mixed_list changed n xs ys) i d ≡ (if number_listed changed m then get_or ys i d else get_or xs i d)
mixed-at changed n i m [] ys d p l e = absurd (omega (arith, l))
mixed-at changed n i m (x ∷ xs) [] d p l e = absurd (omega (arith, e))
mixed-at changed n zero m (x ∷ xs) (y ∷ ys) d p l e =
    let same : n ≡ m = omega (arith, p) in
    ap (λ (k : ℕ). if number_listed changed k then y else x) same
mixed-at changed n (suc i) m (x ∷ xs) (y ∷ ys) d p l e =
    let next : m ≡ suc n + i = omega (arith, p) in
    mixed-at changed (suc n) i m xs ys d next (omega (arith, l)) (omega (arith, e))

-- those so far
pub record MixedSoFar (changed : List ℕ) (xs ys : List GenericArg) (i : ℕ) (items : List GenericArg) : Type 0 where
  pub are : items ≡ take i (mixed_list changed 0 xs ys)

pub no-mixed : (changed : List ℕ) (xs ys : List GenericArg) → MixedSoFar changed xs ys 0 []
no-mixed changed xs ys = record { are = refl }

pub one-mixed : (changed : List ℕ) (xs ys : List GenericArg) (i : ℕ) (old new : List GenericArg) (d : GenericArg) → MixedSoFar changed xs ys i old → i < length xs → length xs ≡ length ys
    → new ≡ old ++ (if number_listed changed i then get_or ys i d else get_or xs i d) ∷ [] → MixedSoFar changed xs ys (i + 1) new
one-mixed changed xs ys i old new d s l e is =
    let there : i < length (mixed_list changed 0 xs ys) = omega (arith, l, mixed-length changed 0 xs ys e) in
    record {
      are = is
          ∙ (ap (λ (zs : List GenericArg). zs ++ (if number_listed changed i then get_or ys i d else get_or xs i d) ∷ []) s.are
          ∙ (ap (λ (z : GenericArg). take i (mixed_list changed 0 xs ys) ++ z ∷ []) (sym (mixed-at changed 0 i i xs ys d (omega arith) l e)) ∙ sym (take_more (mixed_list changed 0 xs ys) i d there)));
    }

pub all-mixed : (changed : List ℕ) (xs ys : List GenericArg) (i : ℕ) (items : List GenericArg) → MixedSoFar changed xs ys i items → length xs ≤ i → length xs ≡ length ys → items ≡ mixed_list changed 0 xs ys
all-mixed changed xs ys i items s l e =
    let past : length (mixed_list changed 0 xs ys) ≤ i = omega (arith, l, mixed-length changed 0 xs ys e) in
    s.are ∙ take_all i (mixed_list changed 0 xs ys) past

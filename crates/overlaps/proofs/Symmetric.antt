-- What is said of two impls is the same whichever of them is given first.
use Rattle.std.proofs.Common.{◌≡◌, ℕ, Bool, true, false, arith, nat_lt, if◌then◌else◌, refl, sym, ap, subst}
use Rattle.std.proofs.lemmas.Bool.{ltb-false, ltb-true}
use Rattle.ir_trees.specs.declared.decl.contents.ImplId.{ImplId}
use Rattle.ir_trees.specs.Declarations.Context.{Context}
use Rattle.candidate_rounds.specs.Evaluators.Known.{Evaluator, state}
use Rattle.overlaps.specs.declared.overlap.Overlap.{Overlap}
use Rattle.overlaps.specs.Allowed.{allowance_of, allowance_of_ordered}
use Rattle.overlaps.specs.Apart.{aside}
use Rattle.overlaps.specs.Found.{IsFoundAt, IsOverlap}
use Rattle.overlaps.specs.Ordered.{in_order}

same-number : (a b : ImplId) → a.0 ≡ b.0 → a ≡ b
same-number a b e = ap (λ (v : ℕ). let r : ImplId = record { 0 = v } in r) e

chosen : (x y : ImplId × ImplId) (p q : Bool) → (p ≡ true → q ≡ true → ⊥) → (p ≡ false → q ≡ false → x ≡ y) → (if p then y else x) ≡ (if q then x else y)
chosen x y true true f g = absurd (f refl refl)
chosen x y true false f g = refl
chosen x y false true f g = refl
chosen x y false false f g = g refl refl

pub order-symmetric : (a b : ImplId) → in_order a b ≡ in_order b a
order-symmetric a b = chosen (a, b) (b, a) (nat_lt b.0 a.0) (nat_lt a.0 b.0) not-both neither
  where
    not-both : nat_lt b.0 a.0 ≡ true → nat_lt a.0 b.0 ≡ true → ⊥
    not-both e f =
        let below = ltb-true b.0 a.0 e in
        let above = ltb-true a.0 b.0 f in
        omega (arith, below, above)

    neither : nat_lt b.0 a.0 ≡ false → nat_lt a.0 b.0 ≡ false → (let p : ImplId × ImplId = (a, b) in let q : ImplId × ImplId = (b, a) in p ≡ q)
    neither e f =
        let above = ltb-false b.0 a.0 e in
        let below = ltb-false a.0 b.0 f in
        let same : a ≡ b = same-number a b (omega (arith, above, below)) in
        let back : b ≡ a = sym same in
        λ i. (same i, back i)

pub allowance-symmetric : (c : Context) (a b : ImplId) → allowance_of c a b ≡ allowance_of c b a
allowance-symmetric c a b = ap (λ (p : ImplId × ImplId). allowance_of_ordered c p.0 p.1) (order-symmetric a b)

pub overlap-symmetric : (old new : Evaluator) (a b : ImplId) (o : Overlap) → IsOverlap old new a b o → IsOverlap old new b a o
overlap-symmetric old new a b o h = subst (λ (p : ImplId × ImplId). IsFoundAt old (aside (state old)) new p.0 p.1 o) (order-symmetric a b) h

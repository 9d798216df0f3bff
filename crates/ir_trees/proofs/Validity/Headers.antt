-- Whether the headers of impls fit what is declared, one after the other.
use Rattle.std.proofs.Common.{◌≡◌, ◌↔◌, ◌⊎◌, inl, inr, IsTrue, ℕ, zero, suc, ◌+◌, ◌<◌, ◌≤◌, length, get_or, Bool, false, Some, List, [], ◌∷◌, refl, sym, ◌∙◌, ap, subst, arith}
use Rattle.std.specs.Prelude.{map, slice_get, MatchOption, Option, None}
use Rattle.std.specs.Option.{is_none}
use Rattle.std.proofs.Math.Nat.{eq-or-lt_of_le}
use Rattle.ir_trees.specs.declared.ir.kinds.GenericArg.{GenericArg}
use Rattle.ir_trees.specs.declared.ir.kinds.TraitRef.{TraitRef}
use Rattle.ir_trees.specs.Declarations.Contents.{Impl}
use Rattle.ir_trees.specs.Syntax.Trees.{TypeKind, Tree}
use Rattle.ir_trees.specs.Syntax.Kinds.{arg_kind}
use Rattle.ir_trees.specs.Validity.Faults.{HeaderMisfits, ImplFits, ImplsFit}
use Rattle.ir_trees.specs.Syntax.Words.{IsArgs, ListFits, list_forest, args_forest}
use Rattle.ir_trees.specs.Declarations.Worlds.{World, TraitSort, joined, parameters, kinds_of}
use Rattle.ir_trees.proofs.Kinding.Arity.{arg-kinds}
use Rattle.ir_trees.proofs.Growth.Made.{list-kinds}

-- a header whose arguments were read
pub header_fits : (w : World) (ts : List Tree) (i : Impl) (r : TraitRef) (xs : List GenericArg) (b : Bool) → r ≡ i.trait_ref → IsArgs ts r.args → ListFits ts xs
    → list_forest ts xs ≡ args_forest ts r.args → IsTrue b ↔ (joined (Some (TypeKind ∷ [])) (parameters w TraitSort r.def_id.0) ≡ Some (map arg_kind xs)) → IsTrue b ↔ ImplFits w ts i
header_fits w ts i r xs b same given fits read e =
    let ks = ap kinds_of (sym read) ∙ (list-kinds ts xs fits ∙ arg-kinds xs) in (
      λ h. record {
        given = subst (λ (x : TraitRef). IsArgs ts x.args) same given;
        takes = subst (λ (x : TraitRef). joined (Some (TypeKind ∷ [])) (parameters w TraitSort x.def_id.0) ≡ Some (kinds_of (args_forest ts x.args))) same (e.0 h ∙ ap Some (sym ks));
      },
      λ f. e.1 (subst (λ (x : TraitRef). joined (Some (TypeKind ∷ [])) (parameters w TraitSort x.def_id.0) ≡ Some (kinds_of (args_forest ts x.args))) (sym same) f.takes ∙ ap Some ks),
    )

-- and one that has none
pub no_header_fits : (w : World) (ts : List Tree) (i : Impl) (r : TraitRef) (b : Bool) → r ≡ i.trait_ref → IsTrue b ↔ IsArgs ts r.args → b ≡ false → IsTrue false ↔ ImplFits w ts i
no_header_fits w ts i r b same e n = (
  λ h. cc,
  λ f. let t : IsTrue b = e.1 (subst (λ (x : TraitRef). IsArgs ts x.args) (sym same) f.given) in cc,
)

pub one_more_fits : (w : World) (ts : List Tree) (is : List Impl) (n : ℕ) (i : Impl) → i ≡ get_or is n i → n < length is
    → ((k : ℕ) (j : Impl) → k < n → j ≡ get_or is k j → ImplFits w ts j) → ImplFits w ts i → (k : ℕ) (j : Impl) → k < n + 1 → j ≡ get_or is k j → ImplFits w ts j
one_more_fits w ts is n i e l f g k j b q = at (eq-or-lt_of_le (omega (arith, b)))
  where
    same : (xs : List Impl) (m : ℕ) (x y : Impl) → m < length xs → get_or xs m x ≡ get_or xs m y
    same [] m x y h = absurd (omega (arith, h))
    same (z ∷ zs) zero x y h = refl
    same (z ∷ zs) (suc m) x y h = same zs m x y (omega (arith, h))

    at : (k ≡ n) ⊎ (k < n) → ImplFits w ts j
    at (inl p) = subst (λ (x : Impl). ImplFits w ts x) (e ∙ same is n i j l ∙ sym (q ∙ ap (λ (m : ℕ). get_or is m j) p)) g
    at (inr h) = f k j h q

headers-all : (w : World) (ts : List Tree) (is : List Impl) → ((k : ℕ) (j : Impl) → k < length is → j ≡ get_or is k j → ImplFits w ts j) → ImplsFit w ts is
headers-all w ts [] f = tt
headers-all w ts (i ∷ is) f = (f 0 i (omega arith) refl, headers-all w ts is (λ k j h e. f (suc k) j (omega (arith, h)) e))

pub headers_fit : (w : World) (ts : List Tree) (is : List Impl) (n : ℕ) → length is ≤ n → ((k : ℕ) (j : Impl) → k < n → j ≡ get_or is k j → ImplFits w ts j)
    → ImplsFit w ts is
headers_fit w ts is n l f = headers-all w ts is (λ k j h. f k j (omega (arith, h, l)))

-- the header of one that is among them fits with them
header-of : (w : World) (ts : List Tree) (is : List Impl) (n : ℕ) (i : Impl) → slice_get is n ≡ Some i → ImplsFit w ts is → ImplFits w ts i
header-of w ts [] n i e a = absurd cc
header-of w ts (x ∷ xs) zero i e a = let same : x ≡ i = cc in subst (λ (y : Impl). ImplFits w ts y) same a.0
header-of w ts (x ∷ xs) (suc n) i e a = header-of w ts xs n i e a.1

-- that none is found which doesn't
pub none_misfits : (w : World) (ts : List Tree) (is : List Impl) (found : Option ℕ) → MatchOption found (ImplsFit w ts is) (HeaderMisfits w ts is) → IsTrue (is_none found) ↔ ImplsFit w ts is
none_misfits w ts is None a = (λ _. a, λ _. refl)
none_misfits w ts is (Some n) m = (λ t. absurd cc, λ a. absurd (m.misfits (header-of w ts is n m.of m.there a)))

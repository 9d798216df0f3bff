-- Lists of types alone.
use Rattle.std.proofs.Common.{◌≡◌, ◌↔◌, IsTrue, ℕ, zero, suc, ◌+◌, ◌<◌, ◌≤◌, ◌⊎◌, inl, inr, Bool, true, false, List, [], ◌∷◌, length, slice_index_or, refl, sym, ◌∙◌, ap, arith}
use Rattle.std.specs.Prelude.{replicate, not, ◌==◌, map, Some, None, slice_get}
use Rattle.std.proofs.Math.Dec.{eqb-suc-zero}
use Rattle.std.proofs.Math.Nat.{eq-or-lt_of_le}
use Rattle.std.specs.List.{list_all}
use Rattle.ir_trees.specs.declared.ir.kinds.VarKind.{VarKind}
use Rattle.ir_trees.specs.declared.ir.kinds.VarKind.TheVariants as V
use Rattle.ir_trees.specs.declared.ir.kinds.GenericArg.{GenericArg}
use Rattle.ir_trees.specs.declared.ir.kinds.GenericArg.TheVariants as A
use Rattle.ir_trees.specs.Syntax.Trees.{Kind, TypeKind}
use Rattle.ir_trees.specs.Syntax.Kinds.{arg_kind}
use Rattle.ir_trees.specs.Declarations.Context.{begins_with_type, is_empty, parameter_kind}
use Rattle.ir_trees.specs.declared.decl.definition.Parameters.{Parameters}
use Rattle.ir_trees.specs.declared.decl.definition.Parameters.TheVariants as P
use Rattle.ir_trees.specs.Declarations.Parameters.{is_type_kind, is_type_arg, kinds_of}

pub all_types : (ks : List VarKind) → list_all is_type_kind ks ≡ true → replicate (length ks) V.Ty ≡ ks
all_types [] e = refl
all_types (V.Ty ∷ ks) e = ap (λ (xs : List VarKind). V.Ty ∷ xs) (all_types ks e)
all_types (V.Const ∷ ks) e = cc
all_types (V.Region ∷ ks) e = cc

pub types_empty : (n : ℕ) → is_empty (replicate n V.Ty) ≡ (n == 0)
types_empty zero = refl
types_empty (suc n) = sym (eqb-suc-zero n)

pub types_begin : (n : ℕ) → begins_with_type (replicate n V.Ty) ≡ not (n == 0)
types_begin zero = refl
types_begin (suc n) = sym (ap not (eqb-suc-zero n))

pub types_count : (n : ℕ) → n ≡ length (replicate n V.Ty)
types_count zero = refl
types_count (suc n) = ap suc (types_count n)

-- the kind of one of so many types
pub kind_there : (n i : ℕ) → i < n → Some V.Ty ≡ slice_get (replicate n V.Ty) i
kind_there zero i h = absurd (omega (arith, h))
kind_there (suc n) zero h = refl
kind_there (suc n) (suc i) h = kind_there n i (omega (arith, h))

pub kind_missing : (n i : ℕ) → n ≤ i → None ≡ slice_get (replicate n V.Ty) i
kind_missing zero i h = refl
kind_missing (suc n) zero h = absurd (omega (arith, h))
kind_missing (suc n) (suc i) h = kind_missing n i (omega (arith, h))

one-kind : (k : VarKind) (x : GenericArg) (ks : List VarKind) (xs : List GenericArg) → parameter_kind k ≡ arg_kind x
    → map parameter_kind ks ≡ map arg_kind xs → map parameter_kind (k ∷ ks) ≡ map arg_kind (x ∷ xs)
one-kind k x ks xs e f = ap (λ (j : Kind). j ∷ map parameter_kind ks) e ∙ ap (λ (js : List Kind). arg_kind x ∷ js) f

-- Lists that are as long, with the same kinds in each place, have the same kinds; and the other way round.
pub same-kinds : (ks : List VarKind) (xs : List GenericArg) (d : VarKind) (e : GenericArg) → length xs ≡ length ks
    → ((i : ℕ) → i < length xs → parameter_kind (slice_index_or ks i d) ≡ arg_kind (slice_index_or xs i e)) → map parameter_kind ks ≡ map arg_kind xs
same-kinds [] [] d e l h = refl
same-kinds [] (x ∷ xs) d e l h = absurd cc
same-kinds (k ∷ ks) [] d e l h = absurd cc
same-kinds (k ∷ ks) (x ∷ xs) d e l h = one-kind k x ks xs (h 0 (omega arith)) (same-kinds ks xs d e (omega (arith, l)) (λ i b. h (suc i) (omega (arith, b))))

pub kinds-agree : (ks : List VarKind) (xs : List GenericArg) (d : VarKind) (e : GenericArg) (i : ℕ) → i < length xs → map parameter_kind ks ≡ map arg_kind xs
    → parameter_kind (slice_index_or ks i d) ≡ arg_kind (slice_index_or xs i e)
kinds-agree ks [] d e i b h = absurd (omega arith)
kinds-agree [] (x ∷ xs) d e i b h = absurd cc
kinds-agree (k ∷ ks) (x ∷ xs) d e zero b h = cc
kinds-agree (k ∷ ks) (x ∷ xs) d e (suc i) b h = let t : map parameter_kind ks ≡ map arg_kind xs = cc in kinds-agree ks xs d e i (omega arith) t

pub kinds-long : (ks : List VarKind) (xs : List GenericArg) → map parameter_kind ks ≡ map arg_kind xs → length xs ≡ length ks
kinds-long [] [] h = refl
kinds-long [] (x ∷ xs) h = absurd cc
kinds-long (k ∷ ks) [] h = absurd cc
kinds-long (k ∷ ks) (x ∷ xs) h = let t : map parameter_kind ks ≡ map arg_kind xs = cc in ap suc (kinds-long ks xs t)

-- so many types
pub types-alone : (xs : List GenericArg) (n : ℕ) → length xs ≡ n → list_all is_type_arg xs ≡ true → map parameter_kind (replicate n V.Ty) ≡ map arg_kind xs
types-alone [] zero l e = refl
types-alone [] (suc n) l e = absurd cc
types-alone (x ∷ xs) zero l e = absurd cc
types-alone (A.Ty t ∷ xs) (suc n) l e = ap (λ (js : List Kind). TypeKind ∷ js) (types-alone xs n (omega (arith, l)) e)
types-alone (A.Const t ∷ xs) (suc n) l e = absurd cc
types-alone (A.Region t ∷ xs) (suc n) l e = absurd cc

pub types-all : (xs : List GenericArg) (n : ℕ) → map parameter_kind (replicate n V.Ty) ≡ map arg_kind xs → list_all is_type_arg xs ≡ true
types-all [] n e = refl
types-all (x ∷ xs) zero e = absurd cc
types-all (A.Ty t ∷ xs) (suc n) e = let f : map parameter_kind (replicate n V.Ty) ≡ map arg_kind xs = cc in types-all xs n f
types-all (A.Const t ∷ xs) (suc n) e = absurd cc
types-all (A.Region t ∷ xs) (suc n) e = absurd cc

pub types-long : (xs : List GenericArg) (n : ℕ) → map parameter_kind (replicate n V.Ty) ≡ map arg_kind xs → length xs ≡ n
types-long [] zero e = refl
types-long [] (suc n) e = absurd cc
types-long (x ∷ xs) zero e = absurd cc
types-long (x ∷ xs) (suc n) e = let f : map parameter_kind (replicate n V.Ty) ≡ map arg_kind xs = cc in ap suc (types-long xs n f)

pub types-iff : (p : Parameters) (n : ℕ) (xs : List GenericArg) (b : Bool) → p ≡ P.Types n → length xs ≡ n → b ≡ list_all is_type_arg xs
    → IsTrue b ↔ (map parameter_kind (kinds_of p) ≡ map arg_kind xs)
types-iff p n xs b e l r =
    let same : map parameter_kind (kinds_of p) ≡ map parameter_kind (replicate n V.Ty) = ap (λ (q : Parameters). map parameter_kind (kinds_of q)) e in
    (λ t. same ∙ types-alone xs n l (sym r ∙ t), λ k. r ∙ types-all xs n (sym same ∙ k))

pub types-differ : (p : Parameters) (n : ℕ) (xs : List GenericArg) → p ≡ P.Types n → (length xs ≡ n → ⊥)
    → IsTrue false ↔ (map parameter_kind (kinds_of p) ≡ map arg_kind xs)
types-differ p n xs e l =
    let same : map parameter_kind (kinds_of p) ≡ map parameter_kind (replicate n V.Ty) = ap (λ (q : Parameters). map parameter_kind (kinds_of q)) e in
    (λ t. absurd cc, λ k. absurd (l (types-long xs n (sym same ∙ k))))

pub lengths-differ : (ks : List VarKind) (xs : List GenericArg) → (length xs ≡ length ks → ⊥) → IsTrue false ↔ (map parameter_kind ks ≡ map arg_kind xs)
lengths-differ ks xs l = (λ t. absurd cc, λ k. absurd (l (kinds-long ks xs k)))

pub place-differs : (ks : List VarKind) (xs : List GenericArg) (d : VarKind) (e : GenericArg) (i : ℕ) (b : Bool) → i < length xs
    → IsTrue b ↔ (parameter_kind (slice_index_or ks i d) ≡ arg_kind (slice_index_or xs i e)) → b ≡ false
    → IsTrue false ↔ (map parameter_kind ks ≡ map arg_kind xs)
place-differs ks xs d e i b h r f = (λ t. absurd cc, λ k. absurd (let t = r.1 (kinds-agree ks xs d e i h k) in cc))

pub one-more-place : (ks : List VarKind) (xs : List GenericArg) (d : VarKind) (e : GenericArg) (i : ℕ)
    → ((k : ℕ) → k < i → parameter_kind (slice_index_or ks k d) ≡ arg_kind (slice_index_or xs k e)) → parameter_kind (slice_index_or ks i d) ≡ arg_kind (slice_index_or xs i e)
    → (k : ℕ) → k < i + 1 → parameter_kind (slice_index_or ks k d) ≡ arg_kind (slice_index_or xs k e)
one-more-place ks xs d e i f h k b = at (eq-or-lt_of_le (omega (arith, b)))
  where
    at : (k ≡ i) ⊎ (k < i) → parameter_kind (slice_index_or ks k d) ≡ arg_kind (slice_index_or xs k e)
    at (inl q) = rw q h
    at (inr q) = f k q

pub all-places : (ks : List VarKind) (xs : List GenericArg) (d : VarKind) (e : GenericArg) (i : ℕ) → length xs ≡ length ks → length xs ≤ i
    → ((k : ℕ) → k < i → parameter_kind (slice_index_or ks k d) ≡ arg_kind (slice_index_or xs k e))
    → IsTrue true ↔ (map parameter_kind ks ≡ map arg_kind xs)
all-places ks xs d e i l n f = (λ t. same-kinds ks xs d e l (λ k b. f k (omega (arith, b, n))), λ k. refl)

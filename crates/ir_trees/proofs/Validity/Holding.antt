-- What declarations hold, one more after the other.
use Rattle.std.proofs.Common.{◌≡◌, ℕ, zero, suc, ◌+◌, ◌<◌, List, [], ◌∷◌, ◌++◌, length, take, get_or, refl, sym, ◌∙◌, ap, arith}
use Rattle.std.proofs.lemmas.List.{take_more, append_assoc}
use Rattle.ir_trees.specs.Declarations.Declaration.{Declaration}
use Rattle.ir_trees.specs.Declarations.Contents.{Impl, Contents}
use Rattle.ir_trees.specs.Validity.Held.{definition_held, definitions_held, impl_held, impls_held}
use Rattle.ir_trees.specs.declared.decl.held.Held.{Held}

append-none : (xs : List Held) → xs ++ [] ≡ xs
append-none [] = refl
append-none (x ∷ xs) = ap (λ (r : List Held). x ∷ r) (append-none xs)

definitions-last : (c : Contents) (i : ℕ) (ds : List Declaration) (d : Declaration)
    → definitions_held c i (ds ++ d ∷ []) ≡ definitions_held c i ds ++ definition_held c (length ds + i) d.kind
definitions-last c i [] d = append-none (definition_held c i d.kind) ∙ ap (λ (n : ℕ). definition_held c n d.kind) (omega arith)
definitions-last c i (e ∷ ds) d =
    ap (λ (r : List Held). definition_held c i e.kind ++ r)
    (definitions-last c (suc i) ds d ∙ ap (λ (n : ℕ). definitions_held c (suc i) ds ++ definition_held c n d.kind) (omega arith))
    ∙ sym (append_assoc (definition_held c i e.kind) (definitions_held c (suc i) ds) (definition_held c (length (e ∷ ds) + i) d.kind))

impls-last : (i : ℕ) (xs : List Impl) (x : Impl) → impls_held i (xs ++ x ∷ []) ≡ impls_held i xs ++ impl_held (length xs + i) x
impls-last i [] x = append-none (impl_held i x) ∙ ap (λ (n : ℕ). impl_held n x) (omega arith)
impls-last i (e ∷ xs) x =
    ap (λ (r : List Held). impl_held i e ++ r)
    (impls-last (suc i) xs x ∙ ap (λ (n : ℕ). impls_held (suc i) xs ++ impl_held n x) (omega arith))
    ∙ sym (append_assoc (impl_held i e) (impls_held (suc i) xs) (impl_held (length (e ∷ xs) + i) x))

length-taken : {X : Type 0} (xs : List X) (n : ℕ) → n < length xs → length (take n xs) + 0 ≡ n
length-taken [] n h = absurd (omega (arith, h))
length-taken (x ∷ xs) zero h = refl
length-taken (x ∷ xs) (suc n) h = let e = length-taken xs n (omega (arith, h)) in omega (arith, e)

-- what one definition more holds comes after what those before hold
pub one_more_definition : (c : Contents) (ds : List Declaration) (n : ℕ) (d : Declaration) (old new : List Held) → n < length ds → d ≡ get_or ds n d
    → old ≡ definitions_held c 0 (take n ds) → new ≡ old ++ definition_held c n d.kind → new ≡ definitions_held c 0 (take (n + 1) ds)
one_more_definition c ds n d old new h e o s =
    s ∙ ap (λ (r : List Held). r ++ definition_held c n d.kind) o
    ∙ sym (ap (definitions_held c 0) (take_more ds n d h ∙ ap (λ (x : Declaration). take n ds ++ x ∷ []) (sym e))
    ∙ (definitions-last c 0 (take n ds) d ∙ ap (λ (k : ℕ). definitions_held c 0 (take n ds) ++ definition_held c k d.kind) (length-taken ds n h)))

-- so does what one impl more holds
pub one_more_impl : (before : List Held) (xs : List Impl) (n : ℕ) (x : Impl) (old new : List Held) → n < length xs → x ≡ get_or xs n x
    → old ≡ before ++ impls_held 0 (take n xs) → new ≡ old ++ impl_held n x → new ≡ before ++ impls_held 0 (take (n + 1) xs)
one_more_impl before xs n x old new h e o s =
    s ∙ ap (λ (r : List Held). r ++ impl_held n x) o ∙ append_assoc before (impls_held 0 (take n xs)) (impl_held n x)
    ∙ sym (ap (λ (r : List Held). before ++ r) (ap (impls_held 0) (take_more xs n x h ∙ ap (λ (y : Impl). take n xs ++ y ∷ []) (sym e))
    ∙ (impls-last 0 (take n xs) x ∙ ap (λ (k : ℕ). impls_held 0 (take n xs) ++ impl_held k x) (length-taken xs n h))))

-- one, and then others
pub one_before : (old mid new ys : List Held) (x : Held) → mid ≡ old ++ x ∷ [] → new ≡ mid ++ ys → new ≡ old ++ x ∷ ys
one_before old mid new ys x f g = g ∙ ap (λ (r : List Held). r ++ ys) f ∙ append_assoc old (x ∷ []) ys

-- The impls that may be for a type are found by its head.
use Rattle.std.proofs.Common.{◌≡◌, ℕ, suc, ◌+◌, ◌<◌, Bool, true, false, List, [], ◌∷◌, ◌++◌, length, take, arith, Option, Some, None, All, get_or, refl, sym, ◌∙◌, ap, subst}
use Rattle.std.specs.Prelude.{◌||◌, map, is_some, slice_get, if◌then◌else◌}
use Rattle.std.specs.List.{filter}
use Rattle.std.specs.Option.{option_map_or}
use Rattle.std.proofs.lemmas.List.{append-nil, length-map}
use Rattle.std.proofs.lemmas.List.Elements.{filter-append, filter_passes}
use Rattle.std.proofs.Math.Seq.{take-suc}
use Rattle.ir_trees.specs.declared.decl.contents.ImplId.{ImplId}
use Rattle.ir_trees.specs.declared.ir.classes.ImplClass.{ImplClass}
use Rattle.ir_trees.specs.declared.ir.classes.ImplClass.TheVariants as K
use Rattle.ir_trees.specs.declared.ir.heads.Head.{Head}
use Rattle.ir_trees.specs.Syntax.Trees.{Tree}
use Rattle.ir_trees.specs.Declarations.Context.{Context}
use Rattle.ir_trees.specs.Unification.ImplClasses.{is_listed, joined, places, sought}
use Rattle.ir_trees.specs.Unification.Impls.{impls_of, is_relevant, self_type}
use Rattle.ir_trees.specs.Unification.ImplLists.{both_lists, class_impls, head_impls, impl_is_in, tests}
use Rattle.ir_trees.proofs.Unification.ImplClasses.{all-relevant, filter-within, length-joined, length-placed, listed-apart, placed, places-joined, relevant-listed}

both-filtered : (c : Context) (i : ℕ) (t : Tree) (k : ImplClass) → sought t.head ≡ Some k
    → both_lists c i k ≡ filter (λ x. impl_is_in c.trees c.contents.impls k x || impl_is_in c.trees c.contents.impls K.Open x) (impls_of c i)
both-filtered c i t k e =
    let f = impl_is_in c.trees c.contents.impls k in
    let g = impl_is_in c.trees c.contents.impls K.Open in
    ap (map (λ (x : ℕ × ImplId). x.1)) (places-joined f g (λ x. listed-apart t.head k (self_type c.trees (slice_get c.contents.impls x.0)) e) 0 (impls_of c i))
    ∙ placed (λ x. f x || g x) 0 (impls_of c i)

-- each has a type that it is for
listed-some : (k : ImplClass) (o : Option Tree) → is_listed k o || is_listed K.Open o ≡ true → is_some o ≡ true
listed-some k None e = e
listed-some k (Some u) e = refl

all-mapped : {X : Type 0} (f g : X → Bool) → ((x : X) → f x ≡ true → g x ≡ true) → (xs : List X) → All (λ x. f x ≡ true) xs → All (λ x. g x ≡ true) xs
all-mapped f g h xs a = λ k d l. h (get_or xs k d) (a k d l)

pub both-typed : (c : Context) (i : ℕ) (t : Tree) (k : ImplClass) → sought t.head ≡ Some k → All (λ x. is_some (self_type c.trees (slice_get c.contents.impls x.0)) ≡ true) (both_lists c i k)
both-typed c i t k e =
    let f = λ (x : ImplId). impl_is_in c.trees c.contents.impls k x || impl_is_in c.trees c.contents.impls K.Open x in
    let typed = λ (x : ImplId). is_some (self_type c.trees (slice_get c.contents.impls x.0)) in
    subst (λ xs. All (λ x. typed x ≡ true) xs) (sym (both-filtered c i t k e))
    (all-mapped f typed (λ x. listed-some k (self_type c.trees (slice_get c.contents.impls x.0))) (filter f (impls_of c i)) (filter_passes f (impls_of c i)))

-- They are those for types with the head.
pub both-of-head : (c : Context) (i : ℕ) (t : Tree) (k : ImplClass) → sought t.head ≡ Some k → both_lists c i k ≡ head_impls c i t.head
both-of-head c i t k e =
    both-filtered c i t k e
    ∙ ap (λ o. filter (λ (x : ImplId). option_map_or (λ j. is_listed j (self_type c.trees (slice_get c.contents.impls x.0)) || is_listed K.Open (self_type c.trees (slice_get c.contents.impls x.0))) o (is_some (self_type c.trees (slice_get c.contents.impls x.0)))) (impls_of c i)) (sym e)

-- those among them that may be for the type are all that may be
pub both-relevant : (c : Context) (i : ℕ) (t : Tree) (k : ImplClass) → sought t.head ≡ Some k → filter (is_relevant c t) (both_lists c i k) ≡ filter (is_relevant c t) (impls_of c i)
both-relevant c i t k e =
    let f = λ (x : ImplId). impl_is_in c.trees c.contents.impls k x || impl_is_in c.trees c.contents.impls K.Open x in
    ap (filter (is_relevant c t)) (both-filtered c i t k e)
    ∙ filter-within (is_relevant c t) f (λ x. relevant-listed t k (self_type c.trees (slice_get c.contents.impls x.0)) e) (impls_of c i)

pub both-counted : (c : Context) (i : ℕ) (t : Tree) (k : ImplClass) → sought t.head ≡ Some k → length (both_lists c i k) ≡ tests c i t
both-counted c i t k e =
    let f = impl_is_in c.trees c.contents.impls k in
    let g = impl_is_in c.trees c.contents.impls K.Open in
    let count = λ (j : ImplClass). length (class_impls c i j) + length (class_impls c i K.Open) in
    length-map (joined (places f 0 (impls_of c i)) (places g 0 (impls_of c i))) (λ (x : ℕ × ImplId). x.1)
    ∙ (length-joined (places f 0 (impls_of c i)) (places g 0 (impls_of c i))
    ∙ (ap (λ n. n + length (places g 0 (impls_of c i))) (length-placed f 0 (impls_of c i))
    ∙ (ap (λ n. length (class_impls c i k) + n) (length-placed g 0 (impls_of c i)) ∙ ap (λ o. option_map_or count o 0) (sym e))))

-- Where nothing is sought, all may be that are for a type, without a test.
pub same-filter : {X : Type 0} (f g : X → Bool) (xs : List X) → ((x : X) → f x ≡ g x) → filter f xs ≡ filter g xs
same-filter f g [] e = refl
same-filter {X = X} f g (x ∷ xs) e = by (same-filter f g xs e)
  where
    by : filter f xs ≡ filter g xs → (if f x then x ∷ filter f xs else filter f xs) ≡ (if g x then x ∷ filter g xs else filter g xs)
    by rest = ap (λ (b : Bool). if b then x ∷ filter f xs else filter f xs) (e x) ∙ ap (λ ys. if g x then x ∷ ys else ys) rest

pub all-typed : (c : Context) (i : ℕ) (t : Tree) → sought t.head ≡ None
    → filter (λ x. is_some (self_type c.trees (slice_get c.contents.impls x.0))) (impls_of c i) ≡ filter (is_relevant c t) (impls_of c i)
all-typed c i t e = same-filter _ _ (impls_of c i) (λ x. sym (all-relevant t (self_type c.trees (slice_get c.contents.impls x.0)) e))

pub none-tested : (c : Context) (i : ℕ) (t : Tree) → sought t.head ≡ None → tests c i t ≡ 0
none-tested c i t e = ap (λ o. option_map_or (λ (j : ImplClass). length (class_impls c i j) + length (class_impls c i K.Open)) o 0) e

-- One more is tested, and kept where it passes.
pub one-tested : {X : Type 0} (f : X → Bool) (xs : List X) (n : ℕ) (x d : X) (ys zs : List X) (b : Bool) → n < length xs → x ≡ get_or xs n d → b ≡ f x → ys ≡ filter f (take n xs)
    → zs ≡ (if b then ys ++ x ∷ [] else ys) → zs ≡ filter f (take (n + 1) xs)
one-tested {X = X} f xs n x d ys zs b l e p q r = r ∙ by b p
  where
    both : filter f (take (n + 1) xs) ≡ filter f (take n xs) ++ (if f x then x ∷ [] else [])
    both =
        let s : n + 1 ≡ suc n = omega arith in
        let more : take (n + 1) xs ≡ take n xs ++ x ∷ [] = ap (λ (m : ℕ). take m xs) s ∙ (take-suc xs n d l ∙ ap (λ z. take n xs ++ z ∷ []) (sym e)) in
        ap (filter f) more ∙ filter-append f (take n xs) (x ∷ [])

    by : (c : Bool) → c ≡ f x → (if c then ys ++ x ∷ [] else ys) ≡ filter f (take (n + 1) xs)
    by true t = ap (λ ls. ls ++ x ∷ []) q ∙ sym (both ∙ ap (λ (c : Bool). filter f (take n xs) ++ (if c then x ∷ [] else [])) (sym t))
    by false t = q ∙ sym (both ∙ (ap (λ (c : Bool). filter f (take n xs) ++ (if c then x ∷ [] else [])) (sym t) ∙ append-nil (filter f (take n xs))))

-- Lists of traits to which traits are added, and the parts of the types with a head.
use Rattle.std.proofs.Common.{◌≡◌, ◌<◌, ◌≤◌, ◌⊎◌, arith, inl, inr, ℕ, zero, suc, Bool, true, false, List, [], ◌∷◌, ◌++◌, Some, length, get_or, slice_index_or, nat_lt, ◌+◌, Option, None, refl, sym, ap, subst, ◌∙◌}
use Rattle.std.specs.Prelude.{IfSome, is_some, not}
use Rattle.std.specs.Borrow.{Bor}
use Rattle.std.specs.Option.{option_copied}
use Rattle.std.proofs.lemmas.Bool.{ltb-false, ltb-true}
use Rattle.std.specs.List.{Contains}
use Rattle.std.proofs.lemmas.List.{append-nil, append_assoc, get_or_append_left, get_or_default}
use Rattle.std.proofs.lemmas.List.Elements.{Contains-append_left, Contains-get_or, Contains-push, Contains-push_cases}
use Rattle.ir_trees.specs.declared.decl.contents.ImplId.{ImplId}
use Rattle.ir_trees.specs.declared.decl.contents.LangItem.{LangItem}
use Rattle.ir_trees.specs.declared.decl.contents.LangItem.TheVariants as item
use Rattle.ir_trees.specs.declared.decl.definition.TraitFlags.{TraitFlags}
use Rattle.ir_trees.specs.declared.ir.kinds.TraitId.{TraitId}
use Rattle.ir_trees.specs.Declarations.Context.{Context}
use Rattle.ir_trees.specs.Declarations.Contents.{Impl}
use Rattle.ir_trees.specs.Declarations.Declaring.{impl_at, item_number}
use Rattle.ir_trees.specs.Declarations.Lookups.{definition, trait_flags}
use Rattle.ir_trees.specs.Syntax.Nodes.{tree_at}
use Rattle.ir_trees.specs.Syntax.Table.{AreDistinct}
use Rattle.ir_trees.specs.Syntax.Trees.{Forest, none, tree, Tree, is_alias, skip}
use Rattle.ir_trees.specs.Syntax.Words.{args_forest}
use Rattle.candidate_eval.specs.Dynamic.ObjectRequirements.{first_tree}
use Rattle.overlaps.specs.PartTraits.{Adds, Asks, IsAskedByLanguage, IsAutoWith, IsForPart, IsItem, IsNext, IsPart, IsSaid, IsSaidByImpl, IsSaidOfItems, LeadsTo, One, RestsOnPart, StandsAt, by_bound, by_fn, by_fn_mut, by_fn_once, by_impl, by_language, by_no_drop, by_super, by_where, further, has_another, has_one_twice, impls_at, is_an_alias, is_parameter, itself, supers_at, trait_wheres_at}

-- What is added

pub adds-nothing : (Q : TraitId → Type 0) (xs : List TraitId) → ((t : TraitId) → Q t → ⊥) → Adds Q xs xs
adds-nothing Q xs never = record { more = []; begins = sym (append-nil xs); only = λ t h. inl h; all = λ t q. absurd (never t q) }

-- one is added; or it is there
pub adds-one : (xs ys : List TraitId) (of : TraitId) → ys ≡ xs ++ of ∷ [] → Adds (λ t. of ≡ t) xs ys
adds-one xs ys of e = record {
  more = of ∷ [];
  begins = e;
  only = λ t h. Contains-push_cases xs of t (subst (λ zs. Contains zs t) e h);
  all = λ t q. subst (λ zs. Contains zs t) (sym e) (subst (Contains (xs ++ of ∷ [])) q (Contains-push xs of));
}

pub adds-there : (xs : List TraitId) (of : TraitId) → Contains xs of → Adds (λ t. of ≡ t) xs xs
adds-there xs of h = record { more = []; begins = sym (append-nil xs); only = λ t k. inl k; all = λ t q. subst (Contains xs) q h }

-- the same by another word
pub adds-as : {P Q : TraitId → Type 0} {xs ys : List TraitId} → ((t : TraitId) → P t → Q t) → ((t : TraitId) → Q t → P t) → Adds P xs ys → Adds Q xs ys
adds-as {P} {Q} {xs} {ys} to from h = record { more = h.more; begins = h.begins; only = λ t k. at t (h.only t k); all = λ t q. h.all t (from t q) }
  where
    at : (t : TraitId) → Contains xs t ⊎ P t → Contains xs t ⊎ Q t
    at t (inl k) = inl k
    at t (inr p) = inr (to t p)

-- one step after the other
pub adds-then : {P Q : TraitId → Type 0} {xs ys zs : List TraitId} → Adds P xs ys → Adds Q ys zs → Adds (λ t. P t ⊎ Q t) xs zs
adds-then {P} {Q} {xs} {ys} {zs} a b = record {
  more = a.more ++ b.more;
  begins = b.begins ∙ (ap (λ us. us ++ b.more) a.begins ∙ append_assoc xs a.more b.more);
  only = λ t h. at t (b.only t h);
  all = all;
}
  where
    before : (t : TraitId) → Contains xs t ⊎ P t → Contains xs t ⊎ (P t ⊎ Q t)
    before t (inl k) = inl k
    before t (inr p) = inr (inl p)

    at : (t : TraitId) → Contains ys t ⊎ Q t → Contains xs t ⊎ (P t ⊎ Q t)
    at t (inl k) = before t (a.only t k)
    at t (inr q) = inr (inr q)

    all : (t : TraitId) → P t ⊎ Q t → Contains zs t
    all t (inl p) = subst (λ us. Contains us t) (sym b.begins) (Contains-append_left ys b.more t (a.all t p))
    all t (inr q) = b.all t q

-- What is added for the members of a list, one after the other

abbrev pub Before : {A : Type 0} → (A → TraitId → Type 0) → List A → A → ℕ → TraitId → Type 0
Before P xs d n t = (m : ℕ) × (m < n) × P (get_or xs m d) t

last-or-before : (m n : ℕ) → m < n + 1 → (m < n) ⊎ (m ≡ n)
last-or-before zero zero l = inr refl
last-or-before zero (suc n) l = inl (omega arith)
last-or-before (suc m) zero l = absurd (omega (arith, l))
last-or-before (suc m) (suc n) l = let k : m < n + 1 = omega (arith, l) in at (last-or-before m n k)
  where
    at : (m < n) ⊎ (m ≡ n) → (suc m < suc n) ⊎ (suc m ≡ suc n)
    at (inl k) = inl (omega (arith, k))
    at (inr e) = inr (ap suc e)

pub before-none : {A : Type 0} (P : A → TraitId → Type 0) (xs : List A) (d : A) (ts : List TraitId) → Adds (Before P xs d 0) ts ts
before-none P xs d ts = adds-nothing (Before P xs d 0) ts (λ t h. let l = h.1 in absurd (omega (arith, l)))

pub before-more : {A : Type 0} (P : A → TraitId → Type 0) (xs : List A) (d : A) (n : ℕ) (us vs ws : List TraitId) → Adds (Before P xs d n) us vs → Adds (P (get_or xs n d)) vs ws
    → Adds (Before P xs d (n + 1)) us ws
before-more P xs d n us vs ws h k = adds-as to from (adds-then h k)
  where
    to : (t : TraitId) → Before P xs d n t ⊎ P (get_or xs n d) t → Before P xs d (n + 1) t
    to t (inl q) = let l = q.1 in (q.0, omega (arith, l), q.2)
    to t (inr q) = (n, omega arith, q)

    split : (t : TraitId) (m : ℕ) → (m < n) ⊎ (m ≡ n) → P (get_or xs m d) t → Before P xs d n t ⊎ P (get_or xs n d) t
    split t m (inl l) q = inl (m, l, q)
    split t m (inr e) q = inr (subst (λ i. P (get_or xs i d) t) e q)

    from : (t : TraitId) → Before P xs d (n + 1) t → Before P xs d n t ⊎ P (get_or xs n d) t
    from t q = split t q.0 (last-or-before q.0 n q.1) q.2

pub before-all : {A : Type 0} (P : A → TraitId → Type 0) (xs : List A) (d : A) (n : ℕ) (us vs : List TraitId) → n ≡ length xs → Adds (Before P xs d n) us vs → Adds (λ t. One xs (λ x. P x t)) us vs
before-all P xs d n us vs e h = adds-as to from h
  where
    to : (t : TraitId) → Before P xs d n t → One xs (λ x. P x t)
    to t q = (get_or xs q.0 d, Contains-get_or xs q.0 d (subst (λ k. q.0 < k) e q.1), q.2)

    from : (t : TraitId) → One xs (λ x. P x t) → Before P xs d n t
    from t q =
        let there = q.1 in
        (there.0, subst (λ k. there.0 < k) (sym e) there.1, subst (λ x. P x t) (sym there.2 ∙ get_or_default xs there.0 q.0 d there.1) q.2)

-- what the language's rules ask for

pub asked-by-four : (c : Context) (s : TraitId) (us vs ws xs ys : List TraitId) → Adds (λ t. IsItem c item.Fn s × IsItem c item.Sized t) us vs → Adds (λ t. IsItem c item.FnMut s × IsItem c item.Sized t) vs ws
    → Adds (λ t. IsItem c item.FnOnce s × IsItem c item.Sized t) ws xs → Adds (λ t. IsItem c item.BikeshedGuaranteedNoDrop s × IsItem c item.Copy t) xs ys → Adds (IsAskedByLanguage c s) us ys
asked-by-four c s us vs ws xs ys f g h k = adds-as to from (adds-then (adds-then (adds-then f g) h) k)
  where
    Pair : LangItem → LangItem → TraitId → Type 0
    Pair x y t = IsItem c x s × IsItem c y t

    Four : TraitId → Type 0
    Four t = ((Pair item.Fn item.Sized t ⊎ Pair item.FnMut item.Sized t) ⊎ Pair item.FnOnce item.Sized t) ⊎ Pair item.BikeshedGuaranteedNoDrop item.Copy t

    to : (t : TraitId) → Four t → IsAskedByLanguage c s t
    to t (inl (inl (inl p))) = record { of = item.Fn; asked = item.Sized; asks = by_fn; of_is = p.0; asked_is = p.1 }
    to t (inl (inl (inr p))) = record { of = item.FnMut; asked = item.Sized; asks = by_fn_mut; of_is = p.0; asked_is = p.1 }
    to t (inl (inr p)) = record { of = item.FnOnce; asked = item.Sized; asks = by_fn_once; of_is = p.0; asked_is = p.1 }
    to t (inr p) = record { of = item.BikeshedGuaranteedNoDrop; asked = item.Copy; asks = by_no_drop; of_is = p.0; asked_is = p.1 }

    at : (t : TraitId) (x y : LangItem) → Asks x y → Pair x y t → Four t
    at t x y by_fn p = inl (inl (inl p))
    at t x y by_fn_mut p = inl (inl (inr p))
    at t x y by_fn_once p = inl (inr p)
    at t x y by_no_drop p = inr p

    from : (t : TraitId) → IsAskedByLanguage c s t → Four t
    from t h = at t h.of h.asked h.asks (h.of_is, h.asked_is)

-- what is said of the trait, if anything
pub adds-said : (o : Option TraitId) (of : TraitId) (us vs : List TraitId) → o ≡ Some of → Adds (λ t. of ≡ t) us vs → Adds (λ t. o ≡ Some t) us vs
adds-said o of us vs e h = adds-as (λ t k. e ∙ ap Some k) (λ t k. let both : Some of ≡ Some t = sym e ∙ k in cc) h

pub adds-unsaid : (o : Option TraitId) (us : List TraitId) → o ≡ None → Adds (λ t. o ≡ Some t) us us
adds-unsaid o us e = adds-nothing (λ t. o ≡ Some t) us (λ t k. let clash : None ≡ Some t = sym e ∙ k in absurd cc)

-- nothing is one of none
pub one-of-none : {A : Type 0} (Q : TraitId → A → Type 0) (us : List TraitId) → Adds (λ t. One [] (Q t)) us us
one-of-none Q us = adds-nothing (λ t. One [] (Q t)) us (λ t h. let l = h.1.1 in absurd (omega (arith, l)))

-- the lang item's trait, where the first one is the trait
pub adds-asked : (c : Context) (x y : LangItem) (of next : TraitId) (us vs : List TraitId) → IsItem c x of → IsItem c y next → Adds (λ t. next ≡ t) us vs → Adds (λ t. IsItem c x of × IsItem c y t) us vs
adds-asked c x y of next us vs i j h = adds-as (λ t k. (i, j ∙ ap Some k)) (λ t k. let both : Some next ≡ Some t = sym j ∙ k.1 in cc) h

pub asked-by-none : (c : Context) (x y : LangItem) (of : TraitId) (us : List TraitId) → (IsItem c x of → ⊥) → Adds (λ t. IsItem c x of × IsItem c y t) us us
asked-by-none c x y of us isnt = adds-nothing (λ t. IsItem c x of × IsItem c y t) us (λ t k. isnt k.0)

pub asks-for-none : (c : Context) (x y : LangItem) (of : TraitId) (us : List TraitId) → slice_index_or c.contents.lang_items (item_number y) None ≡ None → Adds (λ t. IsItem c x of × IsItem c y t) us us
asks-for-none c x y of us e = adds-nothing (λ t. IsItem c x of × IsItem c y t) us (λ t k. let clash : None ≡ Some t = sym e ∙ k.1 in absurd cc)

-- all to which a trait leads at once
pub next-by-five : (c : Context) (s : TraitId) (us vs ws xs ys zs : List TraitId) → Adds (IsSaid c (supers_at c s)) us vs → Adds (IsSaid c (trait_wheres_at c s)) vs ws → Adds (IsSaidOfItems c s) ws xs
    → Adds (IsSaidByImpl c s) xs ys → Adds (IsAskedByLanguage c s) ys zs → Adds (IsNext c s) us zs
next-by-five c s us vs ws xs ys zs f g h k l = adds-as to from (adds-then (adds-then (adds-then (adds-then f g) h) k) l)
  where
    Five : TraitId → Type 0
    Five t = (((IsSaid c (supers_at c s) t ⊎ IsSaid c (trait_wheres_at c s) t) ⊎ IsSaidOfItems c s t) ⊎ IsSaidByImpl c s t) ⊎ IsAskedByLanguage c s t

    to : (t : TraitId) → Five t → IsNext c s t
    to t (inl (inl (inl (inl q)))) = by_super q
    to t (inl (inl (inl (inr q)))) = by_where q
    to t (inl (inl (inr q))) = by_bound q
    to t (inl (inr q)) = by_impl q
    to t (inr q) = by_language q

    from : (t : TraitId) → IsNext c s t → Five t
    from t (by_super q) = inl (inl (inl (inl q)))
    from t (by_where q) = inl (inl (inl (inr q)))
    from t (by_bound q) = inl (inl (inr q))
    from t (by_impl q) = inl (inr q)
    from t (by_language q) = inr q

-- Which traits are led to

-- one added to none
pub first-alone : (c : Context) (of : TraitId) (xs ys : List TraitId) → xs ≡ [] → Adds (λ t. of ≡ t) xs ys → (t : TraitId) → Contains ys t → LeadsTo c of t
first-alone c of xs ys empty adds t h = at (adds.only t h)
  where
    at : Contains xs t ⊎ (of ≡ t) → LeadsTo c of t
    at (inl k) = let some = (subst (λ zs. Contains zs t) empty k).1 in absurd (omega (arith, some))
    at (inr e) = subst (LeadsTo c of) e itself

-- what is got at a place of a list

pub got-trait : (xs : List TraitId) (n : ℕ) (r : Option (Bor TraitId)) (t d : TraitId) → is_some r ≡ nat_lt n (length xs) → IfSome r (λ x. x.now ≡ get_or xs n x.now) → option_copied r ≡ Some t
    → (n < length xs) × (get_or xs n d ≡ t)
got-trait xs n None t d some there e = absurd cc
got-trait xs n (Some x) t d some there e =
    let same : x.now ≡ t = cc in
    let l = ltb-true n (length xs) (sym some) in
    (l, get_or_default xs n d x.now l ∙ (sym there ∙ same))

pub got-none : (xs : List TraitId) (n : ℕ) (r : Option (Bor TraitId)) → is_some r ≡ nat_lt n (length xs) → option_copied r ≡ None → length xs ≤ n
got-none xs n None some e = ltb-false n (length xs) (sym some)
got-none xs n (Some x) some e = absurd cc

-- the traits to which one leads, and those to which one of them leads
pub all-lead : (c : Context) (of s : TraitId) (xs ys : List TraitId) → ((t : TraitId) → Contains xs t → LeadsTo c of t) → LeadsTo c of s → Adds (IsNext c s) xs ys
    → (t : TraitId) → Contains ys t → LeadsTo c of t
all-lead c of s xs ys lead there adds t h = at (adds.only t h)
  where
    at : Contains xs t ⊎ IsNext c s t → LeadsTo c of t
    at (inl k) = lead t k
    at (inr n) = further there n

-- The trait is unsizing, or an auto trait with an impl for a part.
abbrev pub Rests : Context → TraitId → Type 0
Rests c t = IsItem c item.Unsize t ⊎ IsAutoWith c (IsForPart c) t

pub rests-not : (c : Context) (t : TraitId) → (IsItem c item.Unsize t → ⊥) → (IsAutoWith c (IsForPart c) t → ⊥) → Rests c t → ⊥
rests-not c t f g (inl h) = f h
rests-not c t f g (inr h) = g h

-- So many of the traits were looked at: none of them is so, and the list has those to which they lead at once.
abbrev pub AreDone : Context → List TraitId → TraitId → ℕ → Type 0
AreDone c xs d n = (m : ℕ) → m < n → (Rests c (get_or xs m d) → ⊥) × ((t : TraitId) → IsNext c (get_or xs m d) t → Contains xs t)

pub none-done : (c : Context) (xs : List TraitId) (d : TraitId) → AreDone c xs d 0
none-done c xs d m l = absurd (omega (arith, l))

pub one-done : (c : Context) (xs ys : List TraitId) (d : TraitId) (n : ℕ) → AreDone c xs d n → n < length xs → (Rests c (get_or xs n d) → ⊥) → Adds (IsNext c (get_or xs n d)) xs ys → AreDone c ys d (n + 1)
one-done c xs ys d n done inside isnt adds m l = at (last-or-before m n l)
  where
    same : (k : ℕ) → k < length xs → get_or ys k d ≡ get_or xs k d
    same k i = ap (λ us. get_or us k d) adds.begins ∙ get_or_append_left xs adds.more d k i

    there : (t : TraitId) → Contains xs t → Contains ys t
    there t h = subst (λ us. Contains us t) (sym adds.begins) (Contains-append_left xs adds.more t h)

    at : (m < n) ⊎ (m ≡ n) → (Rests c (get_or ys m d) → ⊥) × ((t : TraitId) → IsNext c (get_or ys m d) t → Contains ys t)
    at (inl k) =
        let i : m < length xs = omega (arith, k, inside) in
        let e = same m i in
        (λ r. (done m k).0 (subst (Rests c) e r), λ t h. there t ((done m k).1 t (subst (λ s. IsNext c s t) e h)))
    at (inr k) =
        let e : get_or ys m d ≡ get_or xs n d = ap (λ i. get_or ys i d) k ∙ same n inside in
        (λ r. isnt (subst (Rests c) e r), λ t h. adds.all t (subst (λ s. IsNext c s t) e h))

-- Where all were, the first one leads to nothing of that kind.
pub rests-on-none : (c : Context) (of : TraitId) (xs : List TraitId) (d : TraitId) (n : ℕ) → Contains xs of → AreDone c xs d n → length xs ≤ n → RestsOnPart c of → ⊥
rests-on-none c of xs d n there done all h =
    let k = in-list h.leads in
    (done k.0 (inside k)).0 (subst (Rests c) (sym (is h.trait k)) h.rests)
  where
    inside : {t : TraitId} → (k : Contains xs t) → k.0 < n
    inside k = let l = k.1 in omega (arith, l, all)

    is : (t : TraitId) (k : Contains xs t) → get_or xs k.0 d ≡ t
    is t k = get_or_default xs k.0 d t k.1 ∙ k.2

    in-list : {t : TraitId} → LeadsTo c of t → Contains xs t
    in-list itself = there
    in-list (further {s = s} {t = t} more next) = let k = in-list more in (done k.0 (inside k)).1 t (subst (λ u. IsNext c u t) (sym (is s k)) next)

-- Parts

-- Nothing stands behind the end of a row.
nothing-behind : (ts : Forest) (m n : ℕ) → skip m ts ≡ none → m ≤ n → skip n ts ≡ none
nothing-behind none zero zero e l = refl
nothing-behind none zero (suc n) e l = refl
nothing-behind none (suc m) zero e l = refl
nothing-behind none (suc m) (suc n) e l = refl
nothing-behind (tree h below rest) zero n e l = absurd cc
nothing-behind (tree h below rest) (suc m) zero e l = absurd (omega (arith, l))
nothing-behind (tree h below rest) (suc m) (suc n) e l = let k : m ≤ n = omega (arith, l) in nothing-behind rest m n e k

-- what stands at a place
same-there : (x y : Tree) (n : ℕ) (ts : Forest) → StandsAt x n ts → StandsAt y n ts → x ≡ y
same-there x y n ts a b =
    let e : tree x.head x.children a.0 ≡ tree y.head y.children b.0 = sym a.1 ∙ b.1 in
    let h : x.head ≡ y.head = cc in
    let k : x.children ≡ y.children = cc in
    λ i. record { head = h i; children = k i }

stands-not : (x : Tree) (n : ℕ) (ts : Forest) → skip n ts ≡ none → StandsAt x n ts → ⊥
stands-not x n ts e a = let clash : none ≡ tree x.head x.children a.0 = sym e ∙ a.1 in absurd cc

-- At each of so many places stands a parameter or a region, and another one than before.
abbrev pub AreParameters : Forest → ℕ → Type 0
AreParameters ts n = (m : ℕ) (x : Tree) → m < n → StandsAt x m ts → (is_parameter x.head ≡ true) × ((k : ℕ) → k < m → StandsAt x k ts → ⊥)

pub no-parameters : (ts : Forest) → AreParameters ts 0
no-parameters ts m x l s = absurd (omega (arith, l))

pub one-parameter : (ts : Forest) (n : ℕ) (y : Tree) → AreParameters ts n → StandsAt y n ts → is_parameter y.head ≡ true → ((k : ℕ) → k < n → StandsAt y k ts → ⊥) → AreParameters ts (n + 1)
one-parameter ts n y so there is new m x l s = at (last-or-before m n l)
  where
    at : (m < n) ⊎ (m ≡ n) → (is_parameter x.head ≡ true) × ((k : ℕ) → k < m → StandsAt x k ts → ⊥)
    at (inl k) = so m x k s
    at (inr e) =
        let same : y ≡ x = same-there y x n ts there (subst (λ i. StandsAt x i ts) e s) in
        subst (λ z. (is_parameter z.head ≡ true) × ((k : ℕ) → k < m → StandsAt z k ts → ⊥)) same (is, λ k j. new k (subst (λ i. k < i) e j))

ltb-cases : (m n : ℕ) → (m < n) ⊎ (n ≤ m)
ltb-cases zero zero = inr (omega arith)
ltb-cases zero (suc n) = inl (omega arith)
ltb-cases (suc m) zero = inr (omega arith)
ltb-cases (suc m) (suc n) = at (ltb-cases m n)
  where
    at : (m < n) ⊎ (n ≤ m) → (suc m < suc n) ⊎ (suc n ≤ suc m)
    at (inl l) = inl (omega (arith, l))
    at (inr l) = inr (omega (arith, l))

pub is-whole : (t : Tree) (n : ℕ) → is_alias t.head ≡ false → AreParameters t.children n → skip n t.children ≡ none → IsPart t → ⊥
is-whole t n none-alias so end (is_an_alias e) = let clash : true ≡ false = sym e ∙ none-alias in absurd cc
is-whole t n none-alias so end (has_another place x s e) = at (ltb-cases place n)
  where
    at : (place < n) ⊎ (n ≤ place) → ⊥
    at (inl l) = let clash : true ≡ false = sym (so place x l s).0 ∙ e in absurd cc
    at (inr l) = stands-not x place t.children (nothing-behind t.children n place end l) s
is-whole t n none-alias so end (has_one_twice m k x l s r) = at (ltb-cases k n)
  where
    at : (k < n) ⊎ (n ≤ k) → ⊥
    at (inl j) = (so k x j r).1 m l s
    at (inr j) = stands-not x k t.children (nothing-behind t.children n k end j) r

-- The impl is declared with another self type, or not at all.

pub whole-impl : (c : Context) (of : ImplId) (x : Impl) (t : Tree) → impl_at c of ≡ Some x → t ≡ first_tree (args_forest c.trees x.trait_ref.args) → (IsPart t → ⊥) → IsForPart c of → ⊥
whole-impl c of x t is self isnt h =
    let both : Some x ≡ Some h.declared = sym is ∙ h.is in
    let same : x ≡ h.declared = cc in
    isnt (subst IsPart (sym (self ∙ ap (λ (y : Impl). first_tree (args_forest c.trees y.trait_ref.args)) same)) h.part)

pub no-impl : (c : Context) (of : ImplId) → impl_at c of ≡ None → IsForPart c of → ⊥
no-impl c of is h = let clash : None ≡ Some h.declared = sym is ∙ h.is in absurd cc

-- The trait is no auto trait, or it bars heads; or none of its impls is for a part.

pub no-flags : (c : Context) (Q : ImplId → Type 0) (t : TraitId) → trait_flags (definition c t.0) ≡ None → IsAutoWith c Q t → ⊥
no-flags c Q t is h = let clash : None ≡ Some h.flags = sym is ∙ h.is in absurd cc

pub other-flags : (c : Context) (Q : ImplId → Type 0) (t : TraitId) (f : TraitFlags) → trait_flags (definition c t.0) ≡ Some f → (f.auto ≡ true → f.by_head ≡ false → ⊥) → IsAutoWith c Q t → ⊥
other-flags c Q t f is isnt h =
    let both : Some f ≡ Some h.flags = sym is ∙ h.is in
    let same : f ≡ h.flags = cc in
    isnt (ap (λ (g : TraitFlags). g.auto) same ∙ h.auto) (ap (λ (g : TraitFlags). g.by_head) same ∙ h.by_type)

abbrev pub NoneForPart : Context → List ImplId → ImplId → ℕ → Type 0
NoneForPart c xs d n = (m : ℕ) → m < n → IsForPart c (get_or xs m d) → ⊥

pub none-for-part : (c : Context) (xs : List ImplId) (d : ImplId) → NoneForPart c xs d 0
none-for-part c xs d m l h = absurd (omega (arith, l))

pub one-for-whole : (c : Context) (xs : List ImplId) (d : ImplId) (n : ℕ) → NoneForPart c xs d n → (IsForPart c (get_or xs n d) → ⊥) → NoneForPart c xs d (n + 1)
one-for-whole c xs d n so isnt m l h = at (last-or-before m n l)
  where
    at : (m < n) ⊎ (m ≡ n) → ⊥
    at (inl k) = so m k h
    at (inr e) = isnt (subst (λ i. IsForPart c (get_or xs i d)) e h)

pub no-part-listed : (c : Context) (t : TraitId) (xs : List ImplId) (d : ImplId) (n : ℕ) → xs ≡ impls_at c t → n ≡ length xs → NoneForPart c xs d n → IsAutoWith c (IsForPart c) t → ⊥
no-part-listed c t xs d n is all so h =
    let there : Contains xs h.impl_of = subst (λ ys. Contains ys h.impl_of) (sym is) h.listed in
    so there.0 (subst (λ k. there.0 < k) (sym all) there.1) (subst (IsForPart c) (sym (get_or_default xs there.0 d h.impl_of there.1 ∙ there.2)) h.such)

-- At none of so many places stands what has the number.
abbrev pub NotBefore : List Tree → Forest → ℕ → ℕ → Type 0
NotBefore ts row child n = (m : ℕ) → m < n → StandsAt (tree_at ts child) m row → ⊥

pub not-before-none : (ts : List Tree) (row : Forest) (child : ℕ) → NotBefore ts row child 0
not-before-none ts row child m l s = absurd (omega (arith, l))

pub not-before-more : (ts : List Tree) (row : Forest) (child n : ℕ) → NotBefore ts row child n → (StandsAt (tree_at ts child) n row → ⊥) → NotBefore ts row child (n + 1)
not-before-more ts row child n so isnt m l s = at (last-or-before m n l)
  where
    at : (m < n) ⊎ (m ≡ n) → ⊥
    at (inl k) = so m k s
    at (inr e) = isnt (subst (λ i. StandsAt (tree_at ts child) i row) e s)

-- another number stands there, or nothing
pub other-there : (ts : List Tree) (row : Forest) (child other n : ℕ) → AreDistinct ts → child < length ts → other < length ts → StandsAt (tree_at ts other) n row → (other ≡ child → ⊥) → StandsAt (tree_at ts child) n row → ⊥
other-there ts row child other n distinct c o there isnt s = isnt (distinct other child o c (same-there (tree_at ts other) (tree_at ts child) n row there s))

pub nothing-there : (ts : List Tree) (row : Forest) (child n : ℕ) → skip n row ≡ none → StandsAt (tree_at ts child) n row → ⊥
nothing-there ts row child n e s = stands-not (tree_at ts child) n row e s

-- a member of a list
pub impl-in : (xs : List ImplId) (n : ℕ) (d : ImplId) → n < length xs → Contains xs (slice_index_or xs n d)
impl-in xs n d l = Contains-get_or xs n d l

-- where nothing isn't so
pub of-not-true : (b : Bool) → not b ≡ true → b ≡ false
of-not-true true e = absurd cc
of-not-true false e = refl

-- the trait of a place, of those of which so many were looked at
pub trait-at : (xs : List TraitId) (n : ℕ) (d t : TraitId) → n < length xs → get_or xs n d ≡ t → Contains xs t
trait-at xs n d t l e = (n, l, get_or_default xs n t d l ∙ e)

-- Declared impls stay in the lists of their traits.
use Rattle.std.proofs.Common.{◌≡◌, ◌≤◌, ◌⊎◌, inl, inr, ℕ, zero, suc, List, [], ◌∷◌, ◌++◌, length, Bool, true, false, Option, Some, None, refl, sym, ◌∙◌, ap, subst, arith}
use Rattle.std.specs.Prelude.{slice_get, slice_set, slice_index_or}
use Rattle.std.specs.List.{Contains}
use Rattle.std.proofs.lemmas.Option.{slice_get_past, get_or_from_slice_get}
use Rattle.std.proofs.lemmas.List.Elements.{Contains-append_left, Contains-push}
use Rattle.ir_trees.specs.declared.ir.kinds.AssocId.{AssocId}
use Rattle.ir_trees.specs.declared.ir.kinds.TraitRef.{TraitRef}
use Rattle.ir_trees.specs.declared.decl.contents.ImplId.{ImplId}
use Rattle.ir_trees.specs.Declarations.Declaration.{Declaration}
use Rattle.ir_trees.specs.Declarations.Declaring.{no_place, place, trait_place, impl_at, trait_changed, entered, with_impl_entered}
use Rattle.ir_trees.specs.Declarations.Lookups.{maybe}
use Rattle.ir_trees.specs.Declarations.Contents.{TraitContents, Impl, Contents}
use Rattle.ir_trees.specs.Declarations.Context.{Context}
use Rattle.ir_trees.specs.Unification.Impls.{impls_of}
use Rattle.ir_trees.specs.Unification.ImplLists.{own_impls}
use Rattle.ir_trees.specs.Validity.ListedImpls.{ListsImpls}
use Rattle.ir_trees.specs.Validity.WellFormed.{IsWellFormedTable}

-- Each impl of finished declarations stands in the list of its trait.
pub impl_is_listed : (c : Context) → IsWellFormedTable c → (n : ImplId) (i : Impl) → impl_at c n ≡ Some i → Contains (impls_of c i.trait_ref.def_id.0) n
unfolding IsWellFormedTable
impl_is_listed c t n i e = t.listed n i e

-- one more at the end of a list that is what it was
pub pushed_onto : {X : Type 0} (xs ys zs : List X) (x : X) → zs ≡ ys ++ x ∷ [] → ys ≡ xs → zs ≡ xs ++ x ∷ []
pushed_onto xs ys zs x e s = e ∙ ap (λ us. us ++ x ∷ []) s

none-there : (n : ImplId) → Contains [] n → ⊥
none-there n c = omega (arith, c.1)

-- Where there are no impls, and where something was misnamed

no-impls : (ds : List Declaration) (ts : List TraitContents) (m : Bool) → ListsImpls ds ts [] m
unfolding ListsImpls
no-impls ds ts m = λ f n i s. absurd cc

pub none_listed : (ds : List Declaration) (ts : List TraitContents) (is : List Impl) (m : Bool) → is ≡ [] → ListsImpls ds ts is m
none_listed ds ts is m e = subst (λ (xs : List Impl). ListsImpls ds ts xs m) (sym e) (no-impls ds ts m)

pub misnamed_listed : (ds : List Declaration) (ts : List TraitContents) (is : List Impl) (m : Bool) → m ≡ true → ListsImpls ds ts is m
unfolding ListsImpls
misnamed_listed ds ts is m e = λ f. absurd cc

-- Traits keep their impls: those of each place are still there.
abbrev pub KeepImpls : List TraitContents → List TraitContents → Type 0
KeepImpls ts us = (p : ℕ) (n : ImplId) → Contains (own_impls ts p) n → Contains (own_impls us p) n

more-traits : (ts added : List TraitContents) (p : ℕ) (n : ImplId) → Contains (own_impls ts p) n → Contains (own_impls (ts ++ added) p) n
more-traits [] added p n c = absurd (none-there n c)
more-traits (t ∷ ts) added zero n c = c
more-traits (t ∷ ts) added (suc p) n c = more-traits ts added p n c

pub trait_added : (ts us added : List TraitContents) → us ≡ ts ++ added → KeepImpls ts us
trait_added ts us added e = λ p n c. subst (λ (xs : List TraitContents). Contains (own_impls xs p) n) (sym e) (more-traits ts added p n c)

-- a trait that gets other contents, with its impls among them
trait-set : (ts : List TraitContents) (p : ℕ) (t u : TraitContents) → t ≡ slice_index_or ts p t → ((n : ImplId) → Contains t.impls n → Contains u.impls n)
    → (q : ℕ) (n : ImplId) → Contains (own_impls ts q) n → Contains (own_impls (slice_set ts p u) q) n
trait-set [] p t u e k q n c = c
trait-set (x ∷ ts) zero t u e k zero n c = k n (subst (λ (y : TraitContents). Contains y.impls n) (sym e) c)
trait-set (x ∷ ts) zero t u e k (suc q) n c = c
trait-set (x ∷ ts) (suc p) t u e k zero n c = c
trait-set (x ∷ ts) (suc p) t u e k (suc q) n c = trait-set ts p t u e k q n c

set-there : (ts : List TraitContents) (p : ℕ) (t u : TraitContents) (n : ImplId) → slice_get ts p ≡ Some t → Contains u.impls n → Contains (own_impls (slice_set ts p u) p) n
set-there [] p t u n e c = absurd cc
set-there (x ∷ ts) zero t u n e c = c
set-there (x ∷ ts) (suc p) t u n e c = set-there ts p t u n e c

read : (ts : List TraitContents) (p : ℕ) (t : TraitContents) → slice_get ts p ≡ Some t → t ≡ slice_index_or ts p t
read ts p t e = sym (get_or_from_slice_get ts p t t e)

same-impls : (ts us : List TraitContents) (p : ℕ) (t u : TraitContents) → t ≡ slice_index_or ts p t → us ≡ slice_set ts p u → u.impls ≡ t.impls → KeepImpls ts us
same-impls ts us p t u e s k =
    λ q n c. subst (λ (xs : List TraitContents). Contains (own_impls xs q) n) (sym s)
    (trait-set ts p t u e (λ i h. subst (λ (xs : List ImplId). Contains xs i) (sym k) h) q n c)

pub item_entered : (ts us : List TraitContents) (p : ℕ) (a : AssocId) → us ≡ entered p (λ t. record t { items = t.items ++ a ∷ [] }) ts (slice_get ts p) → KeepImpls ts us
item_entered ts us p a e = at (slice_get ts p) refl
  where
    at : (o : Option TraitContents) → slice_get ts p ≡ o → KeepImpls ts us
    at None q = let same : us ≡ ts = e ∙ ap (entered p (λ t. record t { items = t.items ++ a ∷ [] }) ts) q in
        λ k n c. subst (λ (xs : List TraitContents). Contains (own_impls xs k) n) (sym same) c
    at (Some t) q =
        same-impls ts us p t (record t { items = t.items ++ a ∷ [] }) (read ts p t q) (e ∙ ap (entered p (λ t. record t { items = t.items ++ a ∷ [] }) ts) q) refl

traits-changed : (ds : List Declaration) (ts us : List TraitContents) (is : List Impl) (m : Bool) → KeepImpls ts us → ListsImpls ds ts is m → ListsImpls ds us is m
unfolding ListsImpls
traits-changed ds ts us is m k h = λ f n i s. k (place trait_place ds i.trait_ref.def_id.0) n (h f n i s)

-- a trait that is changed, but for its impls
pub trait_changed_otherwise : (ds : List Declaration) (ts us : List TraitContents) (is : List Impl) (m : Bool) (p : ℕ) (t u : TraitContents) → t ≡ slice_index_or ts p t
    → us ≡ slice_set ts p u → u.impls ≡ t.impls → ListsImpls ds ts is m → ListsImpls ds us is m
trait_changed_otherwise ds ts us is m p t u e s k h = traits-changed ds ts us is m (same-impls ts us p t u e s k) h

-- A trait keeps its place where more is declared.
place-kept : (ds more : List Declaration) (t : ℕ) → (place trait_place ds t ≡ no_place) ⊎ (place trait_place (ds ++ more) t ≡ place trait_place ds t)
place-kept [] more t = inl refl
place-kept (d ∷ ds) more zero = inr refl
place-kept (d ∷ ds) more (suc t) = place-kept ds more t

still-there : (ds more : List Declaration) (ts : List TraitContents) (t : ℕ) (n : ImplId) → length ts ≤ no_place → Contains (own_impls ts (place trait_place ds t)) n
    → Contains (own_impls ts (place trait_place (ds ++ more) t)) n
still-there ds more ts t n l c = at (place-kept ds more t)
  where
    at : (place trait_place ds t ≡ no_place) ⊎ (place trait_place (ds ++ more) t ≡ place trait_place ds t) → Contains (own_impls ts (place trait_place (ds ++ more) t)) n
    at (inl e) =
        absurd (none-there n
        (subst (λ (o : Option TraitContents). Contains (maybe [] (λ (x : TraitContents). x.impls) o) n) (ap (slice_get ts) e ∙ slice_get_past ts no_place l) c))
    at (inr e) = subst (λ (p : ℕ). Contains (own_impls ts p) n) (sym e) c

more-declared : (ds more : List Declaration) (ts : List TraitContents) (is : List Impl) (m : Bool) → length ts ≤ no_place → ListsImpls ds ts is m → ListsImpls (ds ++ more) ts is m
unfolding ListsImpls
more-declared ds more ts is m l h = λ f n i s. still-there ds more ts i.trait_ref.def_id.0 n l (h f n i s)

pub definition_added : (ds es more : List Declaration) (ts us : List TraitContents) (is : List Impl) (m : Bool) → length ts ≤ no_place → es ≡ ds ++ more → KeepImpls ts us
    → ListsImpls ds ts is m → ListsImpls es us is m
definition_added ds es more ts us is m l e k h =
    subst (λ (xs : List Declaration). ListsImpls xs us is m) (sym e) (traits-changed (ds ++ more) ts us is m k (more-declared ds more ts is m l h))

-- An impl that keeps its trait reference

impl-before : (is : List Impl) (p : ℕ) (i j : Impl) → i ≡ slice_index_or is p i → j.trait_ref ≡ i.trait_ref → (n : ℕ) (x : Impl) → slice_get (slice_set is p j) n ≡ Some x
    → (y : Impl) × (slice_get is n ≡ Some y) × (x.trait_ref ≡ y.trait_ref)
impl-before [] p i j e k n x s = absurd cc
impl-before (z ∷ is) zero i j e k zero x s =
    let now : x ≡ j = cc in
    (z, refl, ap (λ (v : Impl). v.trait_ref) now ∙ (k ∙ ap (λ (v : Impl). v.trait_ref) e))
impl-before (z ∷ is) zero i j e k (suc n) x s = (x, s, refl)
impl-before (z ∷ is) (suc p) i j e k zero x s = (x, s, refl)
impl-before (z ∷ is) (suc p) i j e k (suc n) x s = impl-before is p i j e k n x s

set-listed : (ds : List Declaration) (ts : List TraitContents) (is : List Impl) (m : Bool) (p : ℕ) (i j : Impl) → i ≡ slice_index_or is p i → j.trait_ref ≡ i.trait_ref
    → ListsImpls ds ts is m → ListsImpls ds ts (slice_set is p j) m
unfolding ListsImpls
set-listed ds ts is m p i j e k h = λ f n x s.
    let b = impl-before is p i j e k n.0 x s in
    subst (λ (r : TraitRef). Contains (own_impls ts (place trait_place ds r.def_id.0)) n) (sym b.2) (h f n b.0 b.1)

pub impl_changed_otherwise : (ds : List Declaration) (ts : List TraitContents) (is js : List Impl) (m : Bool) (p : ℕ) (i j : Impl) → i ≡ slice_index_or is p i
    → js ≡ slice_set is p j → j.trait_ref ≡ i.trait_ref → ListsImpls ds ts is m → ListsImpls ds ts js m
impl_changed_otherwise ds ts is js m p i j e s k h = subst (λ (xs : List Impl). ListsImpls ds ts xs m) (sym s) (set-listed ds ts is m p i j e k h)

-- A new impl, entered with its trait

last-impl : (is : List Impl) (i x : Impl) (n : ℕ) → slice_get (is ++ i ∷ []) n ≡ Some x → (slice_get is n ≡ Some x) ⊎ ((n ≡ length is) × (x ≡ i))
last-impl [] i x zero s = inr (refl, cc)
last-impl [] i x (suc n) s = absurd cc
last-impl (y ∷ is) i x zero s = inl s
last-impl (y ∷ is) i x (suc n) s = at (last-impl is i x n s)
  where
    at : (slice_get is n ≡ Some x) ⊎ ((n ≡ length is) × (x ≡ i)) → (slice_get (y ∷ is) (suc n) ≡ Some x) ⊎ ((suc n ≡ suc (length is)) × (x ≡ i))
    at (inl e) = inl e
    at (inr e) = inr (ap suc e.0, e.1)

one-more : (ds : List Declaration) (ts us : List TraitContents) (is : List Impl) (m : Bool) (i : Impl) (n : ImplId) → KeepImpls ts us → n.0 ≡ length is
    → Contains (own_impls us (place trait_place ds i.trait_ref.def_id.0)) n → ListsImpls ds ts is m → ListsImpls ds us (is ++ i ∷ []) m
unfolding ListsImpls
one-more ds ts us is m i n k e c h = λ f o x s. at f o x (last-impl is i x o.0 s)
  where
    at : m ≡ false → (o : ImplId) (x : Impl) → (slice_get is o.0 ≡ Some x) ⊎ ((o.0 ≡ length is) × (x ≡ i))
        → Contains (own_impls us (place trait_place ds x.trait_ref.def_id.0)) o
    at f o x (inl s) = k (place trait_place ds x.trait_ref.def_id.0) o (h f o x s)
    at f o x (inr s) =
        let same : n ≡ o = ap (λ (v : ℕ). let r : ImplId = record { 0 = v } in r) (e ∙ sym s.0) in
        subst (λ (y : Impl). Contains (own_impls us (place trait_place ds y.trait_ref.def_id.0)) o) (sym s.1)
        (subst (λ (v : ImplId). Contains (own_impls us (place trait_place ds i.trait_ref.def_id.0)) v) same c)

-- what was entered, or misnamed where there is no trait
pub impl_entered : (ds : List Declaration) (old new : Contents) (is js : List Impl) (i : Impl) (n : ImplId) (p : ℕ) → n.0 ≡ length is
    → new ≡ with_impl_entered p n old → js ≡ is ++ i ∷ [] → p ≡ place trait_place ds i.trait_ref.def_id.0 → ListsImpls ds old.traits is old.misnamed
    → ListsImpls ds new.traits js new.misnamed
impl_entered ds old new is js i n p e s a g h = at (slice_get old.traits p) refl
  where
    changed : Option TraitContents → Contents
    changed o = trait_changed p (λ t. record t { impls = t.impls ++ n ∷ [] }) old o

    at : (o : Option TraitContents) → slice_get old.traits p ≡ o → ListsImpls ds new.traits js new.misnamed
    at None q = misnamed_listed ds new.traits js new.misnamed (ap (λ (c : Contents). c.misnamed) (s ∙ ap changed q))
    at (Some t) q =
        let u : TraitContents = record t { impls = t.impls ++ n ∷ [] } in
        let k : KeepImpls old.traits (slice_set old.traits p u) = trait-set old.traits p t u (read old.traits p t q) (λ j c. Contains-append_left t.impls (n ∷ []) j c) in
        let there = subst (λ (v : ℕ). Contains (own_impls (slice_set old.traits p u) v) n) g (set-there old.traits p t u n q (Contains-push t.impls n)) in
        subst (λ (xs : List Impl). ListsImpls ds new.traits xs new.misnamed) (sym a)
        (subst (λ (c : Contents). ListsImpls ds c.traits (is ++ i ∷ []) c.misnamed) (sym (s ∙ ap changed q))
        (one-more ds old.traits (slice_set old.traits p u) is old.misnamed i n k e there h))

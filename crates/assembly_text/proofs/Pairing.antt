-- The impls that an impl is paired with: all of its trait that may overlap with it, and no others.
use Rattle.std.proofs.Common.{◌≡◌, ◌+◌, ◌<◌, ◌==◌, ◌&&◌, ◌||◌, ◌++◌, ℕ, zero, suc, Bool, true, false, cond, Option, Some, None, List, [], ◌∷◌, ◌↔◌, ◌⊎◌, inl, inr, length, map, get_or, nat_lt, arith, refl, sym, ◌∙◌, ap, subst}
use Rattle.std.specs.Prelude.{All, IfSome, if◌then◌else◌}
use Rattle.std.specs.BTreeMap.{BTreeMap}
use Rattle.std.specs.List.{Contains, filter}
use Rattle.std.specs.List.Sorted.{IsStrictlyIncreasing}
use Rattle.std.proofs.Common.{Vec, Global}
use Rattle.std.proofs.lemmas.Bool.{cases_eq, eq-eqb, eqb-true, lt-ltb, ltb-true}
use Rattle.std.proofs.lemmas.List.{append-nil}
use Rattle.std.proofs.lemmas.List.Elements.{All-contains, Contains-append_left, Contains-append_right, Contains-get_or, Contains-push, filter_passes}
use Rattle.ir_trees.specs.declared.decl.contents.ImplId.{ImplId}
use Rattle.ir_trees.specs.declared.ir.heads.Head.{Head}
use Rattle.ir_trees.specs.declared.ir.kinds.TraitId.{TraitId}
use Rattle.ir_trees.specs.declared.ir.kinds.TraitRef.{TraitRef}
use Rattle.ir_trees.specs.declared.ir.unify.RightSide.{RightSide}
use Rattle.ir_trees.specs.declared.ir.unify.RightSide.TheVariants.{Header}
use Rattle.ir_trees.specs.Declarations.Contents.{Impl}
use Rattle.ir_trees.specs.Declarations.Context.{Context, Grows, world}
use Rattle.ir_trees.specs.Declarations.Declaring.{impl_at}
use Rattle.ir_trees.specs.Declarations.Lookups.{maybe}
use Rattle.ir_trees.specs.Declarations.Worlds.{TraitSort, joined, kinds_of, parameters}
use Rattle.ir_trees.specs.Syntax.Trees.{Forest, Kind, TypeKind, none, tree, Tree, holds, is_alias, is_type, is_type_kind, kind_of}
use Rattle.ir_trees.specs.Syntax.Words.{args_forest}
use Rattle.ir_trees.specs.Unification.Impls.{first_type, impls_of, is_relevant, listed_type, may_be_for, relevant_impls, self_type}
use Rattle.ir_trees.specs.Unification.Unify.{may_unify, trees_may_unify}
use Rattle.ir_trees.specs.Validity.WellFormed.{ImplIsGiven, IsWellFormedTable}
use Rattle.ir_trees.proofs.Growth.Kept.{args-kept, grows-refl, grows-trans}
use Rattle.ir_trees.proofs.Unification.MayUnify.{list_rejected}
use Rattle.ir_context.proofs.Validity.Given.{impl_given}
use Rattle.ir_context.proofs.Validity.ListedImpls.{impl_is_listed}
use Rattle.candidate_eval.specs.Dynamic.ObjectRequirements.{first_tree}
use Rattle.candidate_assembly.specs.Answers.KnownImpls.{header_of}
use Rattle.assembly_text.specs.declared.checking.ImplsWithAliases.{ImplsWithAliases}
use Rattle.assembly_text.specs.Paired.{AreInOrder, CannotOverlap, HasAllThatMayOverlap, HasImplsWithAliases, IsLater, IsOpenHeader, IsPairedWithAll, has_alias, is_asked_with, is_later_of, is_trait, listed_of, may_meet, one_if, open_header, trait_with_alias, with_aliases_below}

-- Lists and tests.

same-impl : (x y : Impl) → Some x ≡ Some y → x ≡ y
same-impl x y e = cc

is-head : (x : ImplId) (xs : List ImplId) → Contains (x ∷ xs) x
is-head x xs = Contains-append_left (x ∷ []) xs x (Contains-push [] x)

-- what passes a test is kept by it
in-either : (v : Bool) (x : ImplId) (xs : List ImplId) (b : ImplId) → Contains xs b → Contains (cond v (x ∷ xs) xs) b
in-either true x xs b h = Contains-append_right (x ∷ []) xs b h
in-either false x xs b h = h

is-kept : (p : ImplId → Bool) (xs : List ImplId) (b : ImplId) → Contains xs b → p b ≡ true → Contains (filter p xs) b
is-kept p [] b h e = absurd (omega (arith, h.1))
is-kept p (x ∷ xs) b (zero, l, f) e =
    subst (λ v. Contains (cond v (x ∷ filter p xs) (filter p xs)) b) (sym (ap p f ∙ e)) (subst (Contains (x ∷ filter p xs)) f (is-head x (filter p xs)))
is-kept p (x ∷ xs) b (suc k, l, f) e =
    let m : k < length xs = omega (arith, l) in
    in-either (p x) x (filter p xs) b (is-kept p xs b (k, m, f) e)

both-true : (a b : Bool) → (a && b) ≡ true → (a ≡ true) × (b ≡ true)
both-true true b e = (refl, e)
both-true false b e = absurd cc

-- The impls with aliases.

-- one that comes before the number is among those below it
pub is-below : (c : Context) (n : ℕ) (b : ImplId) (t : TraitId) → b.0 < n → trait_with_alias c b ≡ Some t → Contains (with_aliases_below c t.0 n) b
is-below c zero b t l e = absurd (omega (arith, l))
is-below c (suc n) b t l e = at (cases_eq b.0 n) (λ (m : b.0 < n). is-below c n b t m e)
  where
    found : record { 0 = n } ≡ b → Contains (one_if (is_trait t.0 (trait_with_alias c (record { 0 = n }))) (record { 0 = n })) b
    found f =
        subst (λ (x : ImplId). Contains (one_if (is_trait t.0 (trait_with_alias c x)) x) b) (sym f)
        (subst (λ v. Contains (one_if v b) b) (sym (ap (is_trait t.0) e ∙ eq-eqb t.0 t.0 refl)) (is-head b []))

    at : (b.0 ≡ n) ⊎ (b.0 ≡ n → ⊥) → (b.0 < n → Contains (with_aliases_below c t.0 n) b)
        → Contains (with_aliases_below c t.0 n ++ one_if (is_trait t.0 (trait_with_alias c (record { 0 = n }))) (record { 0 = n })) b
    at (inl f) before =
        Contains-append_right (with_aliases_below c t.0 n) (one_if (is_trait t.0 (trait_with_alias c (record { 0 = n }))) (record { 0 = n })) b (found (ap (λ (m : ℕ). record { 0 = m }) (sym f)))
    at (inr f) before =
        Contains-append_left (with_aliases_below c t.0 n) (one_if (is_trait t.0 (trait_with_alias c (record { 0 = n }))) (record { 0 = n })) b (before (omega (arith, l, f)))

-- one more was looked at
next-aliases : (c : Context) (t n : ℕ) (xs : List ImplId) → xs ≡ with_aliases_below c t n ++ one_if (is_trait t (trait_with_alias c (record { 0 = n }))) (record { 0 = n }) → xs ≡ with_aliases_below c t (n + 1)
next-aliases c t n xs e = let next : suc n ≡ n + 1 = omega arith in subst (λ k. xs ≡ with_aliases_below c t k) next e

pub alias-more : (c : Context) (n : ℕ) (d : TraitId) (old new : BTreeMap ℕ (Vec ImplId Global)) → trait_with_alias c (record { 0 = n }) ≡ Some d
    → ((t : ℕ) → listed_of new t ≡ listed_of old t ++ one_if (d.0 == t) (record { 0 = n })) → ((t : ℕ) → listed_of old t ≡ with_aliases_below c t n) → (t : ℕ) → listed_of new t ≡ with_aliases_below c t (n + 1)
alias-more c n d old new e pushed before t =
    next-aliases c t n (listed_of new t) (pushed t ∙ (ap (λ xs. xs ++ one_if (d.0 == t) (record { 0 = n })) (before t) ∙ ap (λ o. with_aliases_below c t n ++ one_if (is_trait t o) (record { 0 = n })) (sym e)))

pub no-alias-more : (c : Context) (n : ℕ) (m : BTreeMap ℕ (Vec ImplId Global)) → trait_with_alias c (record { 0 = n }) ≡ None → ((t : ℕ) → listed_of m t ≡ with_aliases_below c t n)
    → (t : ℕ) → listed_of m t ≡ with_aliases_below c t (n + 1)
no-alias-more c n m e before t =
    next-aliases c t n (listed_of m t) (before t ∙ (sym (append-nil (with_aliases_below c t n)) ∙ ap (λ o. with_aliases_below c t n ++ one_if (is_trait t o) (record { 0 = n })) (sym e)))

pub all-looked-at : (c : Context) (n : ℕ) (m : ImplsWithAliases) → IsWellFormedTable c → n ≡ m.number → ((t : ℕ) → listed_of m.of t ≡ with_aliases_below c t n) → HasImplsWithAliases c m
all-looked-at c n m table e all = record { context = c; grows = grows-refl c; well_formed = table; of_each = λ t. all t ∙ ap (with_aliases_below c t) e }

-- they are so in a context that comes after
pub aliases-on : (c d : Context) (m : ImplsWithAliases) → Grows c d → HasImplsWithAliases c m → HasImplsWithAliases d m
aliases-on c d m g h = record { context = h.context; grows = grows-trans _ _ _ h.grows g; well_formed = h.well_formed; of_each = h.of_each }

-- the trait of an impl with an alias stays so
alias-kept : (c d : Context) (b : ImplId) → IsWellFormedTable c → Grows c d → trait_with_alias d b ≡ trait_with_alias c b
alias-kept c d b table g =
    ap (maybe None (λ (i : Impl). if has_alias d i then Some i.trait_ref.def_id else None)) (ap (λ (x : Context). impl_at x b) g.same) ∙ at (impl_at c b) (impl_given c table b)
  where
    at : (o : Option Impl) → IfSome o (ImplIsGiven c)
        → maybe None (λ (i : Impl). if has_alias d i then Some i.trait_ref.def_id else None) o ≡ maybe None (λ (i : Impl). if has_alias c i then Some i.trait_ref.def_id else None) o
    at None h = refl
    at (Some i) h = ap (λ (v : Bool). if v then Some i.trait_ref.def_id else None) (ap (holds is_alias) (args-kept c d i.trait_ref.args g h.header.list).1)

-- whether an alias stands in the header of an impl that is there
alias-of : (c : Context) (b : ImplId) (i : Impl) → impl_at c b ≡ Some i → trait_with_alias c b ≡ (if has_alias c i then Some i.trait_ref.def_id else None)
alias-of c b i e = ap (maybe None (λ (x : Impl). if has_alias c x then Some x.trait_ref.def_id else None)) e

has-none : (c : Context) (b : ImplId) (i : Impl) → impl_at c b ≡ Some i → trait_with_alias c b ≡ None → has_alias c i ≡ false
has-none c b i e n = at (has_alias c i) (sym (alias-of c b i e) ∙ n)
  where
    at : (v : Bool) → (if v then Some i.trait_ref.def_id else None) ≡ None → v ≡ false
    at true f = absurd cc
    at false f = refl

-- Impls that are passed over.

type-first : (o : Option (List Kind)) (g : Head) (below rest : Forest) → joined (Some (TypeKind ∷ [])) o ≡ Some (kinds_of (tree g below rest)) → is_type g ≡ true
type-first None g below rest e = absurd cc
type-first (Some ks) g below rest e = let same : TypeKind ≡ kind_of g = cc in ap is_type_kind (sym same)

-- arguments that a trait takes begin with a type
begin-with-type : (o : Option (List Kind)) (ts : Forest) → joined (Some (TypeKind ∷ [])) o ≡ Some (kinds_of ts) → first_type ts ≡ Some (first_tree ts)
begin-with-type None none e = absurd cc
begin-with-type (Some ks) none e = absurd cc
begin-with-type o (tree g b s) e = ap (λ (v : Bool). if v then Some (record { head = g; children = b }) else None) (type-first o g b s e)

-- headers whose first types quick rejection keeps apart are kept apart
first-apart : (right : RightSide) (a b : Forest) (t : Tree) → t ≡ first_tree a → first_type b ≡ Some (first_tree b) → trees_may_unify right t (first_tree b) ≡ false → may_unify right a b ≡ false
first-apart right none none t e k n = cc
first-apart right none (tree g b s) t e k n = refl
first-apart right (tree h a r) none t e k n = cc
first-apart right (tree h a r) (tree g b s) t e k n = ap (λ v. v && may_unify right r s) (ap (λ u. trees_may_unify right u (record { head = g; children = b })) (sym e) ∙ n)

-- the first type of what quick rejection leaves out is kept apart from the type
passed-over : (c : Context) (t : Tree) (b : ImplId) (j : Impl) → IsWellFormedTable c → impl_at c b ≡ Some j → is_relevant c t b ≡ false
    → (first_type (header_of c j) ≡ Some (first_tree (header_of c j))) × (trees_may_unify Header t (first_tree (header_of c j)) ≡ false)
passed-over c t b j table e out = (begins, sym (ap (may_be_for t) its-type) ∙ out)
  where
    given : ImplIsGiven c j
    given = subst (λ (o : Option Impl). IfSome o (ImplIsGiven c)) e (impl_given c table b)

    begins : first_type (header_of c j) ≡ Some (first_tree (header_of c j))
    begins = begin-with-type (parameters (world c) TraitSort j.trait_ref.def_id.0) (header_of c j) given.header.fit

    its-type : self_type c.trees (impl_at c b) ≡ Some (first_tree (header_of c j))
    its-type = ap (self_type c.trees) e ∙ (ap (λ (k : Kind). listed_type k (header_of c j)) given.header.list ∙ begins)

-- headers without aliases that quick rejection keeps apart can't overlap
apart-headers : (c : Context) (i j : Impl) → has_alias c i ≡ false → has_alias c j ≡ false → may_unify Header (open_header c i) (header_of c j) ≡ false → CannotOverlap c i j
apart-headers c i j own other n = record {
  no_alias = λ k. own k || other k;
  apart = list_rejected Header (open_header c i) (header_of c j) (may_unify Header (open_header c i) (header_of c j)) refl n;
}

-- All that may overlap are there.

-- the impl whose header it is, and the trait
own-impl : (c : Context) (a b : ImplId) (t : TraitRef) (i j : Impl) (h : IsOpenHeader c a t) → AreInOrder c a b i j → h.by ≡ i
own-impl c a b t i j h o = same-impl h.by i (sym h.is ∙ o.first)

own-trait : (c : Context) (a b : ImplId) (t : TraitRef) (i j : Impl) → IsOpenHeader c a t → AreInOrder c a b i j → j.trait_ref.def_id.0 ≡ t.def_id.0
own-trait c a b t i j h o = ap (λ (d : TraitId). d.0) (o.same_trait ∙ (ap (λ (x : Impl). x.trait_ref.def_id) (sym (own-impl c a b t i j h o)) ∙ sym h.of_trait))

is-of-trait : (c : Context) (a b : ImplId) (t : TraitRef) (i j : Impl) → IsWellFormedTable c → IsOpenHeader c a t → AreInOrder c a b i j → Contains (impls_of c t.def_id.0) b
is-of-trait c a b t i j table h o = subst (λ d. Contains (impls_of c d) b) (own-trait c a b t i j h o) (impl_is_listed c table b j o.second)

pub all-of-trait : (c : Context) (number : ℕ) (a : ImplId) (t : TraitRef) (xs : List ImplId) → IsWellFormedTable c → IsOpenHeader c a t → xs ≡ impls_of c t.def_id.0 → HasAllThatMayOverlap c number a xs
all-of-trait c number a t xs table h e b i j o l = inl (subst (λ us. Contains us b) (sym e) (is-of-trait c a b t i j table h o))

module _ (c : Context) (a : ImplId) (t : TraitRef) (m : ImplsWithAliases) (self : Tree) (table : IsWellFormedTable c) (h : IsOpenHeader c a t) (found : HasImplsWithAliases c m)
    (none : trait_with_alias c a ≡ None) (is : self ≡ first_tree (args_forest c.trees t.args)) where
  abbrev relevant : List ImplId
  relevant = relevant_impls c t.def_id.0 self

  abbrev aliased : List ImplId
  aliased = listed_of m.of t.def_id.0

  -- one with an alias
  with-alias : (b : ImplId) (i j : Impl) → AreInOrder c a b i j → b.0 < m.number → has_alias c j ≡ true → Contains aliased b
  with-alias b i j o l e =
      let there : trait_with_alias found.context b ≡ Some j.trait_ref.def_id =
      sym (alias-kept found.context c b found.well_formed found.grows) ∙ (alias-of c b j o.second ∙ ap (λ (v : Bool). if v then Some j.trait_ref.def_id else None) e) in
      subst (λ d. Contains (listed_of m.of d) b) (own-trait c a b t i j h o)
      (subst (λ us. Contains us b) (sym (found.of_each j.trait_ref.def_id.0)) (is-below found.context m.number b j.trait_ref.def_id l there))

  -- one with none that was left out
  left-out : (b : ImplId) (i j : Impl) → AreInOrder c a b i j → has_alias c j ≡ false → is_relevant c self b ≡ false → CannotOverlap c i j
  left-out b i j o e out =
      let own : has_alias c i ≡ false = has-none c a i o.first none in
      let seen : self ≡ first_tree (open_header c i) = is ∙ ap first_tree (h.header ∙ ap (open_header c) (own-impl c a b t i j h o)) in
      let over = passed-over c self b j table o.second out in
      apart-headers c i j own e (first-apart Header (open_header c i) (header_of c j) self seen over.0 over.1)

  either : (b : ImplId) (i j : Impl) → AreInOrder c a b i j → b.0 < m.number → (v w : Bool) → has_alias c j ≡ v → is_relevant c self b ≡ w → Contains (relevant ++ aliased) b ⊎ CannotOverlap c i j
  either b i j o l true w e f = inl (Contains-append_right relevant aliased b (with-alias b i j o l e))
  either b i j o l false true e f = inl (Contains-append_left relevant aliased b (is-kept (is_relevant c self) (impls_of c t.def_id.0) b (is-of-trait c a b t i j table h o) f))
  either b i j o l false false e f = inr (left-out b i j o e f)

  pub relevant-and-aliased : (xs : List ImplId) → xs ≡ relevant ++ aliased → HasAllThatMayOverlap c m.number a xs
  relevant-and-aliased xs e b i j o l = subst (λ us. Contains us b ⊎ CannotOverlap c i j) (sym e) (either b i j o l (has_alias c j) (is_relevant c self b) refl refl)

-- Later impls of the trait, in their order.

module _ (c : Context) (a : ImplId) (t : TraitRef) (h : IsOpenHeader c a t) where
  -- what passes the test is one
  is-later : (b : ImplId) → is_later_of c a t.def_id b ≡ true → IsLater c a b
  is-later b e = at (impl_at c b) refl e
    where
      at : (o : Option Impl) → impl_at c b ≡ o → maybe false (λ (j : Impl). nat_lt a.0 b.0 && (j.trait_ref.def_id.0 == t.def_id.0)) o ≡ true → IsLater c a b
      at None f e = absurd cc
      at (Some j) f e =
          let both = both-true (nat_lt a.0 b.0) (j.trait_ref.def_id.0 == t.def_id.0) e in
          let same : j.trait_ref.def_id ≡ t.def_id = ap (λ (n : ℕ). record { 0 = n }) (eqb-true j.trait_ref.def_id.0 t.def_id.0 both.1) in
          (h.by, j, record { first = h.is; second = f; later = ltb-true a.0 b.0 both.0; same_trait = same ∙ h.of_trait })

  -- and such a one passes it
  passes-test : (b : ImplId) (i j : Impl) → AreInOrder c a b i j → is_later_of c a t.def_id b ≡ true
  passes-test b i j o =
      ap (maybe false (λ (j : Impl). nat_lt a.0 b.0 && (j.trait_ref.def_id.0 == t.def_id.0))) o.second
      ∙ (ap (λ (v : Bool). v && (j.trait_ref.def_id.0 == t.def_id.0)) (lt-ltb a.0 b.0 o.later) ∙ eq-eqb j.trait_ref.def_id.0 t.def_id.0 (own-trait c a b t i j h o))

  -- and, where it may meet the header, the pair is asked about; else it can't overlap
  asked-or-apart : (aliased : Bool) → (trait_with_alias c a ≡ None → aliased ≡ false) → (aliased ≡ false → trait_with_alias c a ≡ None) → (b : ImplId) (i j : Impl) → AreInOrder c a b i j
      → (is_asked_with c a t aliased b ≡ true) ⊎ CannotOverlap c i j
  asked-or-apart aliased k n b i j o = at aliased (has_alias c j) (may_unify Header (args_forest c.trees t.args) (header_of c j)) refl refl refl
    where
      meets : may_meet c aliased (args_forest c.trees t.args) b ≡ (aliased || (has_alias c j || may_unify Header (args_forest c.trees t.args) (header_of c j)))
      meets = ap (maybe false (λ (x : Impl). aliased || (has_alias c x || may_unify Header (args_forest c.trees t.args) (header_of c x)))) o.second

      asked : (aliased || (has_alias c j || may_unify Header (args_forest c.trees t.args) (header_of c j))) ≡ true → is_asked_with c a t aliased b ≡ true
      asked e = ap (λ v. v && may_meet c aliased (args_forest c.trees t.args) b) (passes-test b i j o) ∙ (meets ∙ e)

      seen : args_forest c.trees t.args ≡ open_header c i
      seen = h.header ∙ ap (open_header c) (own-impl c a b t i j h o)

      at : (v w m : Bool) → aliased ≡ v → has_alias c j ≡ w → may_unify Header (args_forest c.trees t.args) (header_of c j) ≡ m → (is_asked_with c a t aliased b ≡ true) ⊎ CannotOverlap c i j
      at true w m e f g = inl (asked (ap (λ x. x || (has_alias c j || may_unify Header (args_forest c.trees t.args) (header_of c j))) e))
      at false true m e f g = inl (asked (ap (λ x. x || (has_alias c j || may_unify Header (args_forest c.trees t.args) (header_of c j))) e ∙ ap (λ x. x || may_unify Header (args_forest c.trees t.args) (header_of c j)) f))
      at false false true e f g = inl (asked (ap (λ x. x || (has_alias c j || may_unify Header (args_forest c.trees t.args) (header_of c j))) e ∙ (ap (λ x. x || may_unify Header (args_forest c.trees t.args) (header_of c j)) f ∙ g)))
      at false false false e f g =
          inr (apart-headers c i j (has-none c a i o.first (n e)) f (ap (λ x. may_unify Header x (header_of c j)) (sym seen) ∙ g))

  pub paired-with-all : (number : ℕ) (aliased : Bool) → (trait_with_alias c a ≡ None → aliased ≡ false) → (aliased ≡ false → trait_with_alias c a ≡ None)
      → (xs ys zs : List ImplId) → HasAllThatMayOverlap c number a xs → ys ≡ filter (is_asked_with c a t aliased) xs → IsStrictlyIncreasing (map (λ (b : ImplId). b.0) zs)
      → ((b : ImplId) → Contains zs b ↔ Contains ys b) → IsPairedWithAll c number a zs
  paired-with-all number aliased k n xs ys zs all e order same = record { in_order = order; are_later = later; are_all = λ b i j o l. at b i j o (all b i j o l) }
    where
      passed : All (λ x. is_asked_with c a t aliased x ≡ true) ys
      passed = subst (All (λ x. is_asked_with c a t aliased x ≡ true)) (sym e) (filter_passes (is_asked_with c a t aliased) xs)

      later : All (IsLater c a) zs
      later m d l =
          let b = get_or zs m d in
          is-later b (both-true (is_later_of c a t.def_id b) (may_meet c aliased (args_forest c.trees t.args) b) (All-contains (λ x. is_asked_with c a t aliased x ≡ true) ys b passed ((same b).0 (Contains-get_or zs m d l)))).0

      asked : (b : ImplId) (i j : Impl) → Contains xs b → (is_asked_with c a t aliased b ≡ true) ⊎ CannotOverlap c i j → Contains zs b ⊎ CannotOverlap c i j
      asked b i j f (inl p) = inl ((same b).1 (subst (λ us. Contains us b) (sym e) (is-kept (is_asked_with c a t aliased) xs b f p)))
      asked b i j f (inr q) = inr q

      at : (b : ImplId) (i j : Impl) → AreInOrder c a b i j → Contains xs b ⊎ CannotOverlap c i j → Contains zs b ⊎ CannotOverlap c i j
      at b i j o (inl f) = asked b i j f (asked-or-apart aliased k n b i j o)
      at b i j o (inr q) = inr q

-- What finished declarations hold is there.
use Rattle.std.proofs.Common.{◌≡◌, ℕ, zero, suc, ◌+◌, ◌≤◌, List, [], ◌∷◌, ◌++◌, length, false, Option, Some, None, refl, ◌∙◌, ap, subst, arith}
use Rattle.std.specs.Prelude.{not, slice_get, IfSome}
use Rattle.std.specs.List.{list_any}
use Rattle.std.proofs.lemmas.Option.{slice_get_past}
use Rattle.ir_trees.specs.declared.ir.kinds.Ty.{Ty}
use Rattle.ir_trees.specs.declared.ir.kinds.Clause.{Clause}
use Rattle.ir_trees.specs.declared.ir.kinds.FnSig.{FnSig}
use Rattle.ir_trees.specs.declared.ir.kinds.Binder.{Binder}
use Rattle.ir_trees.specs.declared.decl.contents.ImplId.{ImplId}
use Rattle.ir_trees.specs.declared.decl.contents.Sizedness.{Sizedness}
use Rattle.ir_trees.specs.declared.decl.contents.Sizedness.TheVariants as Z
use Rattle.ir_trees.specs.declared.decl.definition.DefinitionKind.{DefinitionKind}
use Rattle.ir_trees.specs.declared.decl.definition.DefinitionKind.TheVariants as D
use Rattle.ir_trees.specs.declared.decl.definition.AssocKind.TheVariants as A
use Rattle.ir_trees.specs.declared.decl.held.Held.{Held}
use Rattle.ir_trees.specs.declared.decl.held.HeldSort.TheVariants as S
use Rattle.ir_trees.specs.declared.decl.held.Owner.{Owner}
use Rattle.ir_trees.specs.declared.decl.held.Owner.TheVariants as O
use Rattle.ir_trees.specs.Declarations.Declaration.{Declaration}
use Rattle.ir_trees.specs.Declarations.Declaring.{no_place, adt_place, trait_place, bounds_place, adt_at, trait_at, bounds_at, impl_at}
use Rattle.ir_trees.specs.Declarations.Lookups as lookup
use Rattle.ir_trees.specs.Declarations.Contents.{AdtContents, TraitContents, Bounds, Impl}
use Rattle.ir_trees.specs.Declarations.Context.{Context, world}
use Rattle.ir_trees.specs.Syntax.Trees.{Kind, TypeKind, ClauseKind, ArgumentsKind, BinderKind, Tree}
use Rattle.ir_trees.specs.Syntax.Nodes.{kind_at}
use Rattle.ir_trees.specs.Validity.Held.{held_type, held_clause, held_types, held_clauses, held_sig, option_held, adt_held, trait_held, bounds_held, opaque_held, if_there, definition_held, definitions_held, impl_held, impls_held, held_values}
use Rattle.ir_trees.specs.Validity.Misplaced.{is_held_kind, is_not_given}
use Rattle.ir_trees.specs.Validity.Faults.{ImplFits, ImplsFit}
use Rattle.ir_trees.specs.Validity.WellFormed.{IsWellFormedTable, TypesFit, SignatureFits, ImplIsGiven, AreGiven, types_of_values}
use Rattle.ir_trees.specs.declared.decl.contents.AssocValue.{AssocValue}
use Rattle.ir_trees.specs.Syntax.Words.{IsTy, ClauseListFits}
use Rattle.ir_trees.proofs.Instantiation.Folding.{or-left, or-right}
use Rattle.ir_context.proofs.Validity.WellFormed.{any-of, any-right, definition-passes}

-- What is given is of its kind

type-kind : (k : Kind) → not (is_held_kind S.Ty k) ≡ false → k ≡ TypeKind
type-kind TypeKind e = refl
type-kind _ e = absurd cc

args-kind : (k : Kind) → not (is_held_kind S.Args k) ≡ false → k ≡ ArgumentsKind
args-kind ArgumentsKind e = refl
args-kind _ e = absurd cc

clause-kind-of : (k : Kind) → not (is_held_kind S.Clause k) ≡ false → k ≡ ClauseKind
clause-kind-of ClauseKind e = refl
clause-kind-of _ e = absurd cc

binder-kind : (k : Kind) → not (is_held_kind S.Vars k) ≡ false → k ≡ BinderKind
binder-kind BinderKind e = refl
binder-kind _ e = absurd cc

first-given : (ts : List Tree) (h : Held) (hs : List Held) → list_any (is_not_given ts) (h ∷ hs) ≡ false → is_not_given ts h ≡ false
first-given ts h hs e = or-left (is_not_given ts h) (list_any (is_not_given ts) hs) e

others-given : (ts : List Tree) (h : Held) (hs : List Held) → list_any (is_not_given ts) (h ∷ hs) ≡ false → list_any (is_not_given ts) hs ≡ false
others-given ts h hs e = or-right (is_not_given ts h) (list_any (is_not_given ts) hs) e

types-fit : (ts : List Tree) (o : Owner) (xs : List Ty) → list_any (is_not_given ts) (held_types o xs) ≡ false → TypesFit ts xs
types-fit ts o [] e = refl
types-fit ts o (x ∷ xs) e =
    let here : kind_at ts x.0 ≡ TypeKind = type-kind (kind_at ts x.0) (first-given ts (held_type o x) (held_types o xs) e) in
    let rest = types-fit ts o xs (others-given ts (held_type o x) (held_types o xs) e) in
    cc

clauses-fit : (ts : List Tree) (o : Owner) (xs : List Clause) → list_any (is_not_given ts) (held_clauses o xs) ≡ false → ClauseListFits ts xs
clauses-fit ts o [] e = refl
clauses-fit ts o (x ∷ xs) e =
    let here : kind_at ts x.0 ≡ ClauseKind = clause-kind-of (kind_at ts x.0) (first-given ts (held_clause o x) (held_clauses o xs) e) in
    let rest = clauses-fit ts o xs (others-given ts (held_clause o x) (held_clauses o xs) e) in
    cc

option-fits : (ts : List Tree) (o : Owner) (x : Option Ty) → list_any (is_not_given ts) (option_held o x) ≡ false → IfSome x (λ t. IsTy ts t)
option-fits ts o None e = tt
option-fits ts o (Some t) e = type-kind (kind_at ts t.0) (first-given ts (held_type o t) [] e)

-- What a definition holds

definition_at : (c : Context) → IsWellFormedTable c → (n : ℕ) (d : Declaration) → slice_get c.declarations n ≡ Some d → AreGiven c (definition_held c.contents n d.kind)
unfolding IsWellFormedTable
definition_at c t n d e =
    let all = any-of (is_not_given c.trees) (definitions_held c.contents 0 c.declarations) (impls_held 0 c.contents.impls) t.given in
    definition-passes (is_not_given c.trees) c.contents 0 c.declarations n n d all e (omega arith)

pub definition_given : (c : Context) → IsWellFormedTable c → (n : ℕ) → IfSome (lookup.definition c n) (λ k. AreGiven c (definition_held c.contents n k))
definition_given c t n = of (slice_get c.declarations n) refl
  where
    of : (o : Option Declaration) → slice_get c.declarations n ≡ o → IfSome (lookup.definition c n) (λ k. AreGiven c (definition_held c.contents n k))
    of None q = rw q tt
    of (Some d) q = rw q (definition_at c t n d q)

-- what stands at a place of a sort that the definition may not be of

adt-at : (c : Context) (n : ℕ) (k : DefinitionKind) → length c.contents.adts ≤ no_place → AreGiven c (definition_held c.contents n k)
    → AreGiven c (if_there (adt_held (O.Definition n)) (slice_get c.contents.adts (adt_place k)))
adt-at c n (D.Adt shape flags p) l g = g
adt-at c n (D.Trait _ _) l g = rw (slice_get_past c.contents.adts no_place l) refl
adt-at c n D.Foreign l g = rw (slice_get_past c.contents.adts no_place l) refl
adt-at c n (D.Assoc _ _ _ _) l g = rw (slice_get_past c.contents.adts no_place l) refl
adt-at c n (D.Alias _) l g = rw (slice_get_past c.contents.adts no_place l) refl
adt-at c n (D.Opaque _ _) l g = rw (slice_get_past c.contents.adts no_place l) refl
adt-at c n (D.Function _ _) l g = rw (slice_get_past c.contents.adts no_place l) refl
adt-at c n (D.Closure _) l g = rw (slice_get_past c.contents.adts no_place l) refl

trait-at : (c : Context) (n : ℕ) (k : DefinitionKind) → length c.contents.traits ≤ no_place → AreGiven c (definition_held c.contents n k)
    → AreGiven c (if_there (trait_held (O.Definition n)) (slice_get c.contents.traits (trait_place k)))
trait-at c n (D.Trait flags p) l g = g
trait-at c n (D.Adt _ _ _) l g = rw (slice_get_past c.contents.traits no_place l) refl
trait-at c n D.Foreign l g = rw (slice_get_past c.contents.traits no_place l) refl
trait-at c n (D.Assoc _ _ _ _) l g = rw (slice_get_past c.contents.traits no_place l) refl
trait-at c n (D.Alias _) l g = rw (slice_get_past c.contents.traits no_place l) refl
trait-at c n (D.Opaque _ _) l g = rw (slice_get_past c.contents.traits no_place l) refl
trait-at c n (D.Function _ _) l g = rw (slice_get_past c.contents.traits no_place l) refl
trait-at c n (D.Closure _) l g = rw (slice_get_past c.contents.traits no_place l) refl

opaque-bounds : (ts : List Tree) (o : Owner) (hidden : Ty) (b : Option Bounds) → list_any (is_not_given ts) (opaque_held o hidden b) ≡ false
    → list_any (is_not_given ts) (if_there (bounds_held o) b) ≡ false
opaque-bounds ts o hidden b g = others-given ts (held_type o hidden) (if_there (bounds_held o) b) g

bounds-at : (c : Context) (n : ℕ) (k : DefinitionKind) → length c.contents.bounds ≤ no_place → AreGiven c (definition_held c.contents n k)
    → AreGiven c (if_there (bounds_held (O.Definition n)) (slice_get c.contents.bounds (bounds_place k)))
bounds-at c n (D.Assoc of A.Type sized p) l g = g
bounds-at c n (D.Assoc of A.Const sized p) l g = rw (slice_get_past c.contents.bounds no_place l) refl
bounds-at c n (D.Opaque hidden p) l g = opaque-bounds c.trees (O.Definition n) hidden (slice_get c.contents.bounds p) g
bounds-at c n (D.Adt _ _ _) l g = rw (slice_get_past c.contents.bounds no_place l) refl
bounds-at c n (D.Trait _ _) l g = rw (slice_get_past c.contents.bounds no_place l) refl
bounds-at c n D.Foreign l g = rw (slice_get_past c.contents.bounds no_place l) refl
bounds-at c n (D.Alias _) l g = rw (slice_get_past c.contents.bounds no_place l) refl
bounds-at c n (D.Function _ _) l g = rw (slice_get_past c.contents.bounds no_place l) refl
bounds-at c n (D.Closure _) l g = rw (slice_get_past c.contents.bounds no_place l) refl

pub adt_given : (c : Context) → IsWellFormedTable c → length c.contents.adts ≤ no_place → (n : ℕ)
    → AreGiven c (if_there (adt_held (O.Definition n)) (adt_at c n))
adt_given c t l n = of (slice_get c.declarations n) refl
  where
    of : (o : Option Declaration) → slice_get c.declarations n ≡ o → AreGiven c (if_there (adt_held (O.Definition n)) (adt_at c n))
    of None q = rw q (rw (slice_get_past c.contents.adts no_place l) refl)
    of (Some d) q = rw q (adt-at c n d.kind l (definition_at c t n d q))

pub trait_given : (c : Context) → IsWellFormedTable c → length c.contents.traits ≤ no_place → (n : ℕ)
    → AreGiven c (if_there (trait_held (O.Definition n)) (trait_at c n))
trait_given c t l n = of (slice_get c.declarations n) refl
  where
    of : (o : Option Declaration) → slice_get c.declarations n ≡ o → AreGiven c (if_there (trait_held (O.Definition n)) (trait_at c n))
    of None q = rw q (rw (slice_get_past c.contents.traits no_place l) refl)
    of (Some d) q = rw q (trait-at c n d.kind l (definition_at c t n d q))

pub bounds_given : (c : Context) → IsWellFormedTable c → length c.contents.bounds ≤ no_place → (n : ℕ)
    → AreGiven c (if_there (bounds_held (O.Definition n)) (bounds_at c n))
bounds_given c t l n = of (slice_get c.declarations n) refl
  where
    of : (o : Option Declaration) → slice_get c.declarations n ≡ o → AreGiven c (if_there (bounds_held (O.Definition n)) (bounds_at c n))
    of None q = rw q (rw (slice_get_past c.contents.bounds no_place l) refl)
    of (Some d) q = rw q (bounds-at c n d.kind l (definition_at c t n d q))

-- What an impl holds

impl-given : (ts : List Tree) (i : ℕ) (xs : List Impl) (n j : ℕ) (x : Impl) → list_any (is_not_given ts) (impls_held i xs) ≡ false → slice_get xs n ≡ Some x → j ≡ n + i
    → list_any (is_not_given ts) (impl_held j x) ≡ false
impl-given ts i [] n j x g e q = absurd cc
impl-given ts i (y ∷ ys) zero j x g e q =
    let same : x ≡ y = cc in
    let at : j ≡ i = omega (arith, q) in
    ap (λ (z : Impl). list_any (is_not_given ts) (impl_held j z)) same
    ∙ (ap (λ (m : ℕ). list_any (is_not_given ts) (impl_held m y)) at ∙ any-of (is_not_given ts) (impl_held i y) (impls_held (suc i) ys) g)
impl-given ts i (y ∷ ys) (suc n) j x g e q = impl-given ts (suc i) ys n j x (any-right (is_not_given ts) (impl_held i y) (impls_held (suc i) ys) g) e (omega (arith, q))

impl-fits : (c : Context) (is : List Impl) (n : ℕ) (x : Impl) → ImplsFit (world c) c.trees is → slice_get is n ≡ Some x → ImplFits (world c) c.trees x
impl-fits c [] n x f e = absurd cc
impl-fits c (i ∷ is) zero x f e =
    let same : i ≡ x = cc in
    subst (λ (y : Impl). ImplFits (world c) c.trees y) same f.0
impl-fits c (i ∷ is) (suc n) x f e = impl-fits c is n x f.1 e

-- values are held as their types
pub values_held : (o : Owner) (vs : List AssocValue) → held_values o vs ≡ held_types o (types_of_values vs)
values_held o [] = refl
values_held o (v ∷ vs) = ap (λ (hs : List Held). held_type o v.ty ∷ hs) (values_held o vs)

-- what an impl holds besides its header: where clauses; and those about regions; and types of associated types
abbrev others-of : ℕ → Impl → List Held
others-of n a = held_clauses (O.Impl n) a.super_outlives ++ held_values (O.Impl n) a.values

impl-clauses : (c : Context) (n : ℕ) (a : Impl) → AreGiven c (impl_held n a) → AreGiven c (held_clauses (O.Impl n) a.wheres ++ others-of n a)
impl-clauses c n a g = or-right _ _ g

impl-others : (c : Context) (n : ℕ) (a : Impl) → AreGiven c (impl_held n a) → AreGiven c (others-of n a)
impl-others c n a g = any-right (is_not_given c.trees) (held_clauses (O.Impl n) a.wheres) (others-of n a) (impl-clauses c n a g)

impl_wheres_fit : (c : Context) (n : ℕ) (a : Impl) → AreGiven c (impl_held n a) → ClauseListFits c.trees a.wheres
impl_wheres_fit c n a g = clauses-fit c.trees (O.Impl n) a.wheres (any-of (is_not_given c.trees) (held_clauses (O.Impl n) a.wheres) (others-of n a) (impl-clauses c n a g))

impl_outlives_fit : (c : Context) (n : ℕ) (a : Impl) → AreGiven c (impl_held n a) → ClauseListFits c.trees a.super_outlives
impl_outlives_fit c n a g =
    clauses-fit c.trees (O.Impl n) a.super_outlives
    (any-of (is_not_given c.trees) (held_clauses (O.Impl n) a.super_outlives) (held_values (O.Impl n) a.values) (impl-others c n a g))

impl-values-fit : (c : Context) (n : ℕ) (a : Impl) → AreGiven c (impl_held n a) → TypesFit c.trees (types_of_values a.values)
impl-values-fit c n a g =
    types-fit c.trees (O.Impl n) (types_of_values a.values)
    (subst (λ (hs : List Held). list_any (is_not_given c.trees) hs ≡ false) (values_held (O.Impl n) a.values)
    (any-right (is_not_given c.trees) (held_clauses (O.Impl n) a.super_outlives) (held_values (O.Impl n) a.values) (impl-others c n a g)))

-- what it holds is there, and its header has the arguments that it takes
pub impl_given : (c : Context) → IsWellFormedTable c → (n : ImplId) → IfSome (impl_at c n) (ImplIsGiven c)
unfolding IsWellFormedTable
impl_given c t n = of (impl_at c n) refl
  where
    of : (o : Option Impl) → impl_at c n ≡ o → IfSome o (ImplIsGiven c)
    of None e = tt
    of (Some x) e =
        let all = any-right (is_not_given c.trees) (definitions_held c.contents 0 c.declarations) (impls_held 0 c.contents.impls) t.given in
        let f = impl-fits c c.contents.impls n.0 x t.arguments.impls e in
        let held : AreGiven c (impl_held n.0 x) = impl-given c.trees 0 c.contents.impls n.0 n.0 x all e (omega arith) in
        record {
          header = record { list = f.given; fit = f.takes };
          wheres = impl_wheres_fit c n.0 x held;
          super_outlives = impl_outlives_fit c n.0 x held;
          values = impl-values-fit c n.0 x held;
        }

-- The parts

pub fields_fit : (c : Context) (o : Owner) (a : AdtContents) → AreGiven c (adt_held o a) → TypesFit c.trees a.fields
fields_fit c o a g = types-fit c.trees o a.fields (any-of (is_not_given c.trees) (held_types o a.fields) (option_held o a.sized ++ option_held o a.meta_sized) g)

pub constraint_fits : (c : Context) (o : Owner) (z : Sizedness) (a : AdtContents) → AreGiven c (adt_held o a) → IfSome (lookup.constraint z a) (λ t. IsTy c.trees t)
constraint_fits c o z a g = of z
  where
    both : AreGiven c (option_held o a.sized ++ option_held o a.meta_sized)
    both = any-right (is_not_given c.trees) (held_types o a.fields) (option_held o a.sized ++ option_held o a.meta_sized) g

    of : (y : Sizedness) → IfSome (lookup.constraint y a) (λ t. IsTy c.trees t)
    of Z.Sized = option-fits c.trees o a.sized (any-of (is_not_given c.trees) (option_held o a.sized) (option_held o a.meta_sized) both)
    of Z.MetaSized = option-fits c.trees o a.meta_sized (any-right (is_not_given c.trees) (option_held o a.sized) (option_held o a.meta_sized) both)

pub supers_fit : (c : Context) (o : Owner) (a : TraitContents) → AreGiven c (trait_held o a) → ClauseListFits c.trees a.supers
supers_fit c o a g = clauses-fit c.trees o a.supers (any-of (is_not_given c.trees) (held_clauses o a.supers) (held_clauses o a.wheres) g)

pub wheres_fit : (c : Context) (o : Owner) (a : TraitContents) → AreGiven c (trait_held o a) → ClauseListFits c.trees a.wheres
wheres_fit c o a g = clauses-fit c.trees o a.wheres (any-right (is_not_given c.trees) (held_clauses o a.supers) (held_clauses o a.wheres) g)

pub self_bounds_fit : (c : Context) (o : Owner) (a : Bounds) → AreGiven c (bounds_held o a) → ClauseListFits c.trees a.self_bounds
self_bounds_fit c o a g = clauses-fit c.trees o a.self_bounds (any-of (is_not_given c.trees) (held_clauses o a.self_bounds) (held_clauses o a.non_self_bounds) g)

pub non_self_bounds_fit : (c : Context) (o : Owner) (a : Bounds) → AreGiven c (bounds_held o a) → ClauseListFits c.trees a.non_self_bounds
non_self_bounds_fit c o a g = clauses-fit c.trees o a.non_self_bounds (any-right (is_not_given c.trees) (held_clauses o a.self_bounds) (held_clauses o a.non_self_bounds) g)

pub hidden_fits : (c : Context) (n p : ℕ) (hidden : Ty) → AreGiven c (definition_held c.contents n (D.Opaque hidden p)) → IsTy c.trees hidden
hidden_fits c n p hidden g =
    let o = O.Definition n in
    type-kind (kind_at c.trees hidden.0) (first-given c.trees (held_type o hidden) (if_there (bounds_held o) (slice_get c.contents.bounds p)) g)

pub sig_fits : (c : Context) (o : Owner) (s : Binder FnSig) → AreGiven c (held_sig o s) → SignatureFits c.trees s
sig_fits c o s g =
    let after = or-right _ _ g in
    record {
      vars = binder-kind (kind_at c.trees s.vars.0) (or-left _ _ g);
      inputs = args-kind (kind_at c.trees s.value.inputs.0) (or-left _ _ after);
      output = type-kind (kind_at c.trees s.value.output.0) (or-left _ _ (or-right _ _ after));
    }

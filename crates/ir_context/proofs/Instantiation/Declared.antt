-- What declarations hold has arguments for its parameters, where arguments are given, and mentions no variable.
use Rattle.std.proofs.Common.{◌≡◌, ℕ, zero, suc, ◌+◌, ◌≤◌, List, [], ◌∷◌, ◌++◌, length, Bool, true, false, Option, Some, None, refl, sym, ◌∙◌, ap, subst, arith}
use Rattle.std.specs.Prelude.{◌||◌, ◌==◌, find, map, slice_get, option_map, All, IfSome, if◌then◌else◌}
use Rattle.std.specs.List.{list_any}
use Rattle.std.proofs.lemmas.Bool.{eqb-true}
use Rattle.std.proofs.lemmas.Option.{slice_get-map, slice_get_past}
use Rattle.ir_trees.specs.declared.ir.heads.Head.{Head}
use Rattle.ir_trees.specs.declared.ir.heads.Head.TheVariants as H
use Rattle.ir_trees.specs.declared.ir.kinds.AliasKind.{AliasKind}
use Rattle.ir_trees.specs.declared.ir.kinds.AliasKind.TheVariants as AK
use Rattle.ir_trees.specs.declared.ir.kinds.AliasTy.{AliasTy}
use Rattle.ir_trees.specs.declared.ir.kinds.AssocId.{AssocId}
use Rattle.ir_trees.specs.declared.ir.kinds.Clause.{Clause}
use Rattle.ir_trees.specs.declared.decl.contents.AssocValue.{AssocValue}
use Rattle.ir_trees.specs.declared.ir.kinds.RegionKind.TheVariants as R
use Rattle.ir_trees.specs.declared.ir.kinds.TraitRef.{TraitRef}
use Rattle.ir_trees.specs.declared.ir.kinds.Ty.{Ty}
use Rattle.ir_trees.specs.declared.ir.kinds.TyKind.TheVariants as K
use Rattle.ir_trees.specs.declared.ir.kinds.VarKind.{VarKind}
use Rattle.ir_trees.specs.declared.decl.contents.AliasBoundKind.{AliasBoundKind}
use Rattle.ir_trees.specs.declared.decl.contents.AliasBoundKind.TheVariants as B
use Rattle.ir_trees.specs.declared.decl.contents.ImplId.{ImplId}
use Rattle.ir_trees.specs.declared.decl.definition.AssocKind.TheVariants as A
use Rattle.ir_trees.specs.declared.decl.definition.DefinitionKind.{DefinitionKind}
use Rattle.ir_trees.specs.declared.decl.definition.DefinitionKind.TheVariants as D
use Rattle.ir_trees.specs.declared.decl.held.Held.{Held}
use Rattle.ir_trees.specs.declared.decl.held.HeldSort.TheVariants as HS
use Rattle.ir_trees.specs.declared.decl.held.Owner.{Owner}
use Rattle.ir_trees.specs.declared.decl.held.Owner.TheVariants as O
use Rattle.ir_trees.specs.declared.decl.misplaced.Misplaced.{Misplaced}
use Rattle.ir_trees.specs.declared.decl.misplaced.Misplaced.TheVariants as M
use Rattle.ir_trees.specs.Declarations.Context.{Context, world, definition_of, parameter_kind, sort_of}
use Rattle.ir_trees.specs.Declarations.Contents.{AdtContents, Bounds, Contents, Impl, TraitContents}
use Rattle.ir_trees.specs.Declarations.Declaration.{Declaration}
use Rattle.ir_trees.specs.Declarations.Declaring.{no_place, adt_place, trait_place, bounds_place, adt_at, impl_at, trait_at, bounds_at}
use Rattle.ir_trees.specs.Instantiation.Folding.{lacks_argument}
use Rattle.ir_trees.specs.Validity.Held.{adt_held, held_type, held_types, option_held, held_clause, held_clauses, trait_held, bounds_held, if_there, definition_held, definitions_held, impl_held, impls_held, held_values}
use Rattle.ir_trees.specs.Declarations.Lookups.{definition, hidden_type, kind_of_declared, maybe, value_of}
use Rattle.ir_trees.specs.Validity.Misplaced.{has_self, held_escapes, held_misplaces, is_misplaced, kinds_of_declared, kinds_of_impl, kinds_of_owner, tree_misplaces, with_self}
use Rattle.ir_trees.specs.Syntax.Nodes.{tree_at}
use Rattle.ir_trees.specs.Instantiation.Owned.{AliasArgumentsFit, ClausesAreOwned, ImplIsOwned, TypesAreOwned, bounds_among, is_unsolved}
use Rattle.ir_trees.specs.Declarations.References.{ArgumentsFit, Takes}
use Rattle.ir_trees.specs.Syntax.Trees.{Kind, TypeKind, ArgumentsKind, Forest, none, tree, Tree, holds, tree_holds}
use Rattle.ir_trees.specs.Validity.WellFormed.{IsWellFormedTable, ImplIsGiven, TypesFit, types_of_values}
use Rattle.ir_context.proofs.Validity.Given.{values_held}
use Rattle.ir_trees.specs.Validity.Faults.{all_that_is_held}
use Rattle.ir_trees.specs.Syntax.Binders.{tree_escapes}
use Rattle.ir_trees.specs.Syntax.Words.{IsArgs, IsTy, ClauseListFits, args_forest, clause_tree, kind_tree, ty_tree}
use Rattle.ir_trees.specs.Declarations.Worlds.{alias_kinds, DefinitionSort, AdtSort, AssociatedTypeSort, AliasSort, OpaqueSort, TraitSort, joined, kinds_of, parameters, parameters_of, sort_number}
use Rattle.ir_trees.proofs.Instantiation.Folding.{or-left, or-right}
use Rattle.ir_context.proofs.Instantiation.Owned.{NoneMisplaced, head-has, none-past-them, none-stray, or-none}
use Rattle.ir_trees.proofs.Syntax.Rows.{join-none, row-list}
use Rattle.ir_context.proofs.Validity.WellFormed.{any-of, any-right, definition-passes}

-- A mark that is on nothing that may stand among parameters of these kinds.

abbrev IsBarred : List VarKind → (Head → Bool) → Type 0
IsBarred ks mark = (h : Head) → is_misplaced M.Past ks h ≡ false → is_misplaced M.Stray ks h ≡ false → mark h ≡ false

variable-barred : (ks : List VarKind) → IsBarred ks is_unsolved
variable-barred ks (H.Infer v) past stray = absurd cc
variable-barred ks (H.Region (R.Var v)) past stray = absurd cc
variable-barred ks _ past stray = refl

lack-barred : (args : Forest) (ks : List VarKind) → kinds_of args ≡ map parameter_kind ks → IsBarred ks (lacks_argument args)
lack-barred args ks e h past stray = head-has args ks h e past stray

barred-list : (ks : List VarKind) (mark : Head → Bool) → IsBarred ks mark → (ts : Forest) → holds (is_misplaced M.Past ks) ts ≡ false → holds (is_misplaced M.Stray ks) ts ≡ false
    → holds mark ts ≡ false
barred-list ks mark b none past stray = refl
barred-list ks mark b (tree h below rest) past stray =
    let p = or-right _ _ past in
    let s = or-right _ _ stray in
    or-none _ _ (b h (or-left _ _ past) (or-left _ _ stray))
    (or-none _ _ (barred-list ks mark b below (or-left _ _ p) (or-left _ _ s)) (barred-list ks mark b rest (or-right _ _ p) (or-right _ _ s)))

barred-tree : (ks : List VarKind) (mark : Head → Bool) → IsBarred ks mark → (t : Tree) → tree_holds (is_misplaced M.Past ks) t ≡ false → tree_holds (is_misplaced M.Stray ks) t ≡ false
    → tree_holds mark t ≡ false
barred-tree ks mark b t past stray =
    or-none _ _ (b t.head (or-left _ _ past) (or-left _ _ stray)) (barred-list ks mark b t.children (or-right _ _ past) (or-right _ _ stray))

-- What an owner holds, whose parameters have the kinds of the arguments.

abbrev test : Context → Misplaced → Held → Bool
test c m h = held_misplaces m c.trees c.declarations c.contents.impls h

none-misplaced : (c : Context) → IsWellFormedTable c → (m : Misplaced) → NoneMisplaced m c
none-misplaced c t M.Past = none-past-them c t
none-misplaced c t M.Stray = none-stray c t

-- the kinds of the owner's parameters, which the arguments have
record TakesThem (c : Context) (o : Owner) (args : Forest) : Type 0 where
  ks : List VarKind
  owner : kinds_of_owner c.declarations c.contents.impls o ≡ Some ks
  same : kinds_of args ≡ map parameter_kind ks

held-is : (c : Context) (o : Owner) (ks : List VarKind) → kinds_of_owner c.declarations c.contents.impls o ≡ Some ks → (h : Held) → h.owner ≡ o → (m : Misplaced) → test c m h ≡ false
    → tree_holds (is_misplaced m ks) (tree_at c.trees h.number) ≡ false
held-is c o ks k h e m f =
    sym (ap (λ (w : Owner). tree_misplaces m (tree_at c.trees h.number) (kinds_of_owner c.declarations c.contents.impls w)) e ∙ ap (tree_misplaces m (tree_at c.trees h.number)) k) ∙ f

cons-all : (P : Clause → Type 0) (x : Clause) (xs : List Clause) → P x → All P xs → All P (x ∷ xs)
cons-all P x xs now more zero d l = now
cons-all P x xs now more (suc k) d l = more k d (omega (arith, l))

barred-clauses : (c : Context) (o : Owner) (ks : List VarKind) → kinds_of_owner c.declarations c.contents.impls o ≡ Some ks → (mark : Head → Bool) → IsBarred ks mark → (xs : List Clause)
    → ((m : Misplaced) → list_any (test c m) (held_clauses o xs) ≡ false) → All (λ x. tree_holds mark (clause_tree c.trees x) ≡ false) xs
barred-clauses c o ks k mark b [] f = λ n d l. absurd (omega (arith, l))
barred-clauses c o ks k mark b (x ∷ xs) f =
    let at : (m : Misplaced) → tree_holds (is_misplaced m ks) (clause_tree c.trees x) ≡ false = λ m. held-is c o ks k (held_clause o x) refl m (or-left _ _ (f m)) in
    cons-all (λ y. tree_holds mark (clause_tree c.trees y) ≡ false) x xs
    (barred-tree ks mark b (clause_tree c.trees x) (at M.Past) (at M.Stray))
    (barred-clauses c o ks k mark b xs (λ m. or-right _ _ (f m)))

clauses-owned : (c : Context) (o : Owner) (args : Forest) → TakesThem c o args → (xs : List Clause) → ClauseListFits c.trees xs
    → ((m : Misplaced) → list_any (test c m) (held_clauses o xs) ≡ false) → ClausesAreOwned c.trees args xs
clauses-owned c o args a xs fit f = record {
  fit = fit;
  have = barred-clauses c o a.ks a.owner (lacks_argument args) (lack-barred args a.ks a.same) xs f;
  closed = barred-clauses c o a.ks a.owner is_unsolved (variable-barred a.ks) xs f;
}

-- The same of types, from which no bound variable escapes.

cons-types : (P : Ty → Type 0) (x : Ty) (xs : List Ty) → P x → All P xs → All P (x ∷ xs)
cons-types P x xs now more zero d l = now
cons-types P x xs now more (suc k) d l = more k d (omega (arith, l))

barred-types : (c : Context) (o : Owner) (ks : List VarKind) → kinds_of_owner c.declarations c.contents.impls o ≡ Some ks → (mark : Head → Bool) → IsBarred ks mark → (xs : List Ty)
    → ((m : Misplaced) → list_any (test c m) (held_types o xs) ≡ false) → All (λ x. tree_holds mark (ty_tree c.trees x) ≡ false) xs
barred-types c o ks k mark b [] f = λ n d l. absurd (omega (arith, l))
barred-types c o ks k mark b (x ∷ xs) f =
    let at : (m : Misplaced) → tree_holds (is_misplaced m ks) (ty_tree c.trees x) ≡ false = λ m. held-is c o ks k (held_type o x) refl m (or-left _ _ (f m)) in
    cons-types (λ y. tree_holds mark (ty_tree c.trees y) ≡ false) x xs
    (barred-tree ks mark b (ty_tree c.trees x) (at M.Past) (at M.Stray))
    (barred-types c o ks k mark b xs (λ m. or-right _ _ (f m)))

bound-types : (ts : List Tree) (o : Owner) (xs : List Ty) → list_any (held_escapes ts) (held_types o xs) ≡ false → All (λ x. tree_escapes 0 (ty_tree ts x) ≡ false) xs
bound-types ts o [] f = λ n d l. absurd (omega (arith, l))
bound-types ts o (x ∷ xs) f = cons-types (λ y. tree_escapes 0 (ty_tree ts y) ≡ false) x xs (or-left _ _ f) (bound-types ts o xs (or-right _ _ f))

types-owned : (c : Context) (o : Owner) (args : Forest) → TakesThem c o args → (xs : List Ty) → TypesFit c.trees xs → ((m : Misplaced) → list_any (test c m) (held_types o xs) ≡ false)
    → list_any (held_escapes c.trees) (held_types o xs) ≡ false → TypesAreOwned c.trees args xs
types-owned c o args a xs fit f g = record {
  fit = fit;
  have = barred-types c o a.ks a.owner (lacks_argument args) (lack-barred args a.ks a.same) xs f;
  closed = barred-types c o a.ks a.owner is_unsolved (variable-barred a.ks) xs f;
  bound = bound-types c.trees o xs g;
}

none-escape : (c : Context) → IsWellFormedTable c → list_any (held_escapes c.trees) (all_that_is_held c) ≡ false
unfolding IsWellFormedTable
none-escape c t = or-left _ _ (or-right _ _ t.kinds)

no-clauses : (ts : List Tree) (args : Forest) (xs : List Clause) → xs ≡ [] → ClausesAreOwned ts args xs
no-clauses ts args xs e =
    subst (ClausesAreOwned ts args) (sym e) (record { fit = refl; have = λ n d l. absurd (omega (arith, l)); closed = λ n d l. absurd (omega (arith, l)) })

-- Of an impl

impl-passes : (f : Held → Bool) (i : ℕ) (xs : List Impl) (n j : ℕ) (x : Impl) → list_any f (impls_held i xs) ≡ false → slice_get xs n ≡ Some x → j ≡ n + i
    → list_any f (impl_held j x) ≡ false
impl-passes f i [] n j x g e q = absurd cc
impl-passes f i (y ∷ ys) zero j x g e q =
    let same : x ≡ y = cc in
    let at : j ≡ i = omega (arith, q) in
    ap (λ (z : Impl). list_any f (impl_held j z)) same ∙ (ap (λ (m : ℕ). list_any f (impl_held m y)) at ∙ any-of f (impl_held i y) (impls_held (suc i) ys) g)
impl-passes f i (y ∷ ys) (suc n) j x g e q = impl-passes f (suc i) ys n j x (any-right f (impl_held i y) (impls_held (suc i) ys) g) e (omega (arith, q))

module _ (c : Context) (t : IsWellFormedTable c) (n : ImplId) (args : Forest) where
  abbrev owner : Owner
  owner = O.Impl n.0

  there : (x : Impl) → impl_at c n ≡ Some x → kinds_of args ≡ map parameter_kind x.parameters → ImplIsGiven c x → ImplIsOwned c.trees args x
  there x e k g =
      let a : TakesThem c owner args = record { ks = x.parameters; owner = ap kinds_of_impl e; same = k } in
      let held : (m : Misplaced) → list_any (test c m) (impl_held n.0 x) ≡ false =
      λ m.
      impl-passes (test c m) 0 c.contents.impls n.0 n.0 x (any-right (test c m) (definitions_held c.contents 0 c.declarations) (impls_held 0 c.contents.impls) (none-misplaced c t m)) e (omega arith) in
      let h : Held = record { owner = owner; sort = HS.Args; number = x.trait_ref.args.0; under_binder = false } in
      let header : (m : Misplaced) → tree_holds (is_misplaced m x.parameters) (tree_at c.trees x.trait_ref.args.0) ≡ false =
      λ m. held-is c owner x.parameters a.owner h refl m (or-left _ _ (held m)) in
      let ws = held_clauses owner x.wheres in
      let os = held_clauses owner x.super_outlives in
      let vs = held_values owner x.values in
      let same : vs ≡ held_types owner (types_of_values x.values) = values_held owner x.values in
      let clauses : (m : Misplaced) → list_any (test c m) (ws ++ (os ++ vs)) ≡ false = λ m. or-right _ _ (held m) in
      let others : (m : Misplaced) → list_any (test c m) (os ++ vs) ≡ false = λ m. any-right (test c m) ws (os ++ vs) (clauses m) in
      let leaves : list_any (held_escapes c.trees) (impl_held n.0 x) ≡ false =
      impl-passes (held_escapes c.trees) 0 c.contents.impls n.0 n.0 x (any-right (held_escapes c.trees) (definitions_held c.contents 0 c.declarations) (impls_held 0 c.contents.impls) (none-escape c t)) e (omega arith) in
      let free : list_any (held_escapes c.trees) vs ≡ false = any-right (held_escapes c.trees) os vs (any-right (held_escapes c.trees) ws (os ++ vs) (or-right _ _ leaves)) in
      record {
        have = barred-list x.parameters (lacks_argument args) (lack-barred args x.parameters k) (args_forest c.trees x.trait_ref.args) (or-right _ _ (header M.Past)) (or-right _ _ (header M.Stray));
        closed = barred-list x.parameters is_unsolved (variable-barred x.parameters) (args_forest c.trees x.trait_ref.args) (or-right _ _ (header M.Past)) (or-right _ _ (header M.Stray));
        wheres = clauses-owned c owner args a x.wheres g.wheres (λ m. any-of (test c m) ws (os ++ vs) (clauses m));
        super_outlives = clauses-owned c owner args a x.super_outlives g.super_outlives (λ m. any-of (test c m) os vs (others m));
        values = types-owned c owner args a (types_of_values x.values) g.values (λ m. ap (λ (hs : List Held). list_any (test c m) hs) (sym same) ∙ any-right (test c m) os vs (others m))
            (ap (λ (hs : List Held). list_any (held_escapes c.trees) hs) (sym same) ∙ free);
      }

  pub impl_owned : kinds_of args ≡ map parameter_kind (maybe [] (λ (i : Impl). i.parameters) (impl_at c n)) → (o : Option Impl) → o ≡ impl_at c n → IfSome o (ImplIsGiven c)
      → IfSome o (ImplIsOwned c.trees args)
  impl_owned k None e g = tt
  impl_owned k (Some x) e g = there x (sym e) (k ∙ ap (λ (o : Option Impl). map parameter_kind (maybe [] (λ (i : Impl). i.parameters) o)) (sym e)) g

-- Of a definition

abbrev self_number : ℕ → Bool
self_number n = (n == 2) || ((n == 3) || (n == 4))

has-self-number : (k : DefinitionKind) → has_self k ≡ self_number (sort_number (sort_of k))
has-self-number (D.Adt _ _ _) = refl
has-self-number (D.Trait _ _) = refl
has-self-number D.Foreign = refl
has-self-number (D.Assoc _ A.Type _ _) = refl
has-self-number (D.Assoc _ A.Const _ _) = refl
has-self-number (D.Alias _) = refl
has-self-number (D.Opaque _ _) = refl
has-self-number (D.Function _ _) = refl
has-self-number (D.Closure _) = refl

-- the arguments after `Self`, which some definitions have
abbrev first_kinds : Bool → List Kind
first_kinds true = TypeKind ∷ []
first_kinds false = []

self-kinds : (b : Bool) (ks : List VarKind) → first_kinds b ++ map parameter_kind ks ≡ map parameter_kind (with_self b ks)
self-kinds true ks = refl
self-kinds false ks = refl

takes-them : (c : Context) (s : DefinitionSort) (n : ℕ) (args : Forest) → joined (Some (first_kinds (self_number (sort_number s)))) (parameters (world c) s n) ≡ Some (kinds_of args)
    → TakesThem c (O.Definition n) args
takes-them c s n args e = of (slice_get c.declarations n) refl
  where
    first : List Kind
    first = first_kinds (self_number (sort_number s))

    has : (o : Option Declaration) → slice_get c.declarations n ≡ o → joined (Some first) (parameters_of s (option_map definition_of o)) ≡ Some (kinds_of args)
    has o q = sym (ap (λ x. joined (Some first) (parameters_of s x)) (slice_get-map definition_of c.declarations n ∙ ap (option_map definition_of) q)) ∙ e

    found : (d : Declaration) → slice_get c.declarations n ≡ Some d → (b : Bool) → sort_number (sort_of d.kind) == sort_number s ≡ b
        → joined (Some first) (if b then Some (map parameter_kind d.parameters) else None) ≡ Some (kinds_of args) → TakesThem c (O.Definition n) args
    found d q false i f = absurd cc
    found d q true i f =
        let self : has_self d.kind ≡ self_number (sort_number s) = has-self-number d.kind ∙ ap self_number (eqb-true _ _ i) in
        let all : first ++ map parameter_kind d.parameters ≡ kinds_of args = cc in
        record {
          ks = with_self (has_self d.kind) d.parameters;
          owner = ap kinds_of_declared q;
          same = sym all ∙ (self-kinds (self_number (sort_number s)) d.parameters ∙ ap (λ (b : Bool). map parameter_kind (with_self b d.parameters)) (sym self));
        }

    of : (o : Option Declaration) → slice_get c.declarations n ≡ o → TakesThem c (O.Definition n) args
    of None q = let z = has None q in absurd cc
    of (Some d) q =
        found d q (sort_number (sort_of d.kind) == sort_number s) refl (has (Some d) q)

joined-none : (o : Option (List Kind)) → joined (Some []) o ≡ o
joined-none None = refl
joined-none (Some ks) = refl

alias-takes : (c : Context) (a : AliasTy) → AliasArgumentsFit c a → TakesThem c (O.Definition a.id.0) (args_forest c.trees a.args)
alias-takes c a f = of a.kind refl
  where
    args : Forest
    args = args_forest c.trees a.args

    of : (k : AliasKind) → a.kind ≡ k → TakesThem c (O.Definition a.id.0) (args_forest c.trees a.args)
    of AK.Projection e = takes-them c AssociatedTypeSort a.id.0 (args_forest c.trees a.args) (subst (λ (k : AliasKind). alias_kinds (world c) k a.id.0 ≡ Some (kinds_of (args_forest c.trees a.args))) e f)
    of AK.Opaque e =
        takes-them c OpaqueSort a.id.0 (args_forest c.trees a.args)
        (joined-none (parameters (world c) OpaqueSort a.id.0) ∙ subst (λ (k : AliasKind). alias_kinds (world c) k a.id.0 ≡ Some (kinds_of (args_forest c.trees a.args))) e f)
    of AK.Inherent e =
        takes-them c AliasSort a.id.0 (args_forest c.trees a.args)
        (joined-none (parameters (world c) AliasSort a.id.0) ∙ subst (λ (k : AliasKind). alias_kinds (world c) k a.id.0 ≡ Some (kinds_of (args_forest c.trees a.args))) e f)
    of AK.Free e =
        takes-them c AliasSort a.id.0 (args_forest c.trees a.args)
        (joined-none (parameters (world c) AliasSort a.id.0) ∙ subst (λ (k : AliasKind). alias_kinds (world c) k a.id.0 ≡ Some (kinds_of (args_forest c.trees a.args))) e f)

nothing-passes : (X : Type 0) (hold : X → List Held) (f : Held → Bool) (xs : List X) → length xs ≤ no_place → list_any f (if_there hold (slice_get xs no_place)) ≡ false
nothing-passes X hold f xs l = rw (slice_get_past xs no_place l) refl

trait-passes : (c : Context) (f : Held → Bool) (n : ℕ) (k : DefinitionKind) → length c.contents.traits ≤ no_place → list_any f (definition_held c.contents n k) ≡ false
    → list_any f (if_there (trait_held (O.Definition n)) (slice_get c.contents.traits (trait_place k))) ≡ false
trait-passes c f n (D.Trait flags p) l g = g
trait-passes c f n (D.Adt _ _ _) l g = nothing-passes TraitContents (trait_held (O.Definition n)) f c.contents.traits l
trait-passes c f n D.Foreign l g = nothing-passes TraitContents (trait_held (O.Definition n)) f c.contents.traits l
trait-passes c f n (D.Assoc _ _ _ _) l g = nothing-passes TraitContents (trait_held (O.Definition n)) f c.contents.traits l
trait-passes c f n (D.Alias _) l g = nothing-passes TraitContents (trait_held (O.Definition n)) f c.contents.traits l
trait-passes c f n (D.Opaque _ _) l g = nothing-passes TraitContents (trait_held (O.Definition n)) f c.contents.traits l
trait-passes c f n (D.Function _ _) l g = nothing-passes TraitContents (trait_held (O.Definition n)) f c.contents.traits l
trait-passes c f n (D.Closure _) l g = nothing-passes TraitContents (trait_held (O.Definition n)) f c.contents.traits l

bounds-pass : (c : Context) (f : Held → Bool) (n : ℕ) (k : DefinitionKind) → length c.contents.bounds ≤ no_place → list_any f (definition_held c.contents n k) ≡ false
    → list_any f (if_there (bounds_held (O.Definition n)) (slice_get c.contents.bounds (bounds_place k))) ≡ false
bounds-pass c f n (D.Assoc of A.Type sized p) l g = g
bounds-pass c f n (D.Assoc of A.Const sized p) l g = nothing-passes Bounds (bounds_held (O.Definition n)) f c.contents.bounds l
bounds-pass c f n (D.Opaque hidden p) l g = or-right _ _ g
bounds-pass c f n (D.Adt _ _ _) l g = nothing-passes Bounds (bounds_held (O.Definition n)) f c.contents.bounds l
bounds-pass c f n (D.Trait _ _) l g = nothing-passes Bounds (bounds_held (O.Definition n)) f c.contents.bounds l
bounds-pass c f n D.Foreign l g = nothing-passes Bounds (bounds_held (O.Definition n)) f c.contents.bounds l
bounds-pass c f n (D.Alias _) l g = nothing-passes Bounds (bounds_held (O.Definition n)) f c.contents.bounds l
bounds-pass c f n (D.Function _ _) l g = nothing-passes Bounds (bounds_held (O.Definition n)) f c.contents.bounds l
bounds-pass c f n (D.Closure _) l g = nothing-passes Bounds (bounds_held (O.Definition n)) f c.contents.bounds l

own-pass : (c : Context) → IsWellFormedTable c → (m : Misplaced) (n : ℕ) (d : Declaration) → slice_get c.declarations n ≡ Some d → list_any (test c m) (definition_held c.contents n d.kind) ≡ false
own-pass c t m n d q =
    let mine = any-of (test c m) (definitions_held c.contents 0 c.declarations) (impls_held 0 c.contents.impls) (none-misplaced c t m) in
    definition-passes (test c m) c.contents 0 c.declarations n n d mine q (omega arith)

trait-owns : (c : Context) → IsWellFormedTable c → length c.contents.traits ≤ no_place → (m : Misplaced) (n : ℕ) → list_any (test c m) (if_there (trait_held (O.Definition n)) (trait_at c n)) ≡ false
trait-owns c t l m n = of (slice_get c.declarations n) refl
  where
    of : (o : Option Declaration) → slice_get c.declarations n ≡ o → list_any (test c m) (if_there (trait_held (O.Definition n)) (trait_at c n)) ≡ false
    of None q = rw q (nothing-passes TraitContents (trait_held (O.Definition n)) (test c m) c.contents.traits l)
    of (Some d) q = rw q (trait-passes c (test c m) n d.kind l (own-pass c t m n d q))

bounds-owned-by : (c : Context) → IsWellFormedTable c → length c.contents.bounds ≤ no_place → (m : Misplaced) (n : ℕ)
    → list_any (test c m) (if_there (bounds_held (O.Definition n)) (bounds_at c n)) ≡ false
bounds-owned-by c t l m n = of (slice_get c.declarations n) refl
  where
    of : (o : Option Declaration) → slice_get c.declarations n ≡ o → list_any (test c m) (if_there (bounds_held (O.Definition n)) (bounds_at c n)) ≡ false
    of None q = rw q (nothing-passes Bounds (bounds_held (O.Definition n)) (test c m) c.contents.bounds l)
    of (Some d) q = rw q (bounds-pass c (test c m) n d.kind l (own-pass c t m n d q))

trait-supers : (c : Context) (o : Owner) (x : Option TraitContents) (m : Misplaced) → list_any (test c m) (if_there (trait_held o) x) ≡ false
    → list_any (test c m) (held_clauses o (maybe [] (λ (a : TraitContents). a.supers) x)) ≡ false
trait-supers c o None m f = refl
trait-supers c o (Some a) m f = any-of (test c m) (held_clauses o a.supers) (held_clauses o a.wheres) f

trait-wheres : (c : Context) (o : Owner) (x : Option TraitContents) (m : Misplaced) → list_any (test c m) (if_there (trait_held o) x) ≡ false
    → list_any (test c m) (held_clauses o (maybe [] (λ (a : TraitContents). a.wheres) x)) ≡ false
trait-wheres c o None m f = refl
trait-wheres c o (Some a) m f = any-right (test c m) (held_clauses o a.supers) (held_clauses o a.wheres) f

pub supers_owned : (c : Context) → IsWellFormedTable c → length c.contents.traits ≤ no_place → (r : TraitRef) → ArgumentsFit c r
    → (xs : List Clause) → xs ≡ maybe [] (λ (a : TraitContents). a.supers) (trait_at c r.def_id.0) → ClauseListFits c.trees xs → ClausesAreOwned c.trees (args_forest c.trees r.args) xs
supers_owned c t l r f xs e fit =
    let o = O.Definition r.def_id.0 in
    clauses-owned c o (args_forest c.trees r.args) (takes-them c TraitSort r.def_id.0 (args_forest c.trees r.args) f) xs fit
    (λ m. ap (λ (ys : List Clause). list_any (test c m) (held_clauses o ys)) e ∙ trait-supers c o (trait_at c r.def_id.0) m (trait-owns c t l m r.def_id.0))

pub wheres_owned : (c : Context) → IsWellFormedTable c → length c.contents.traits ≤ no_place → (r : TraitRef) → ArgumentsFit c r
    → (xs : List Clause) → xs ≡ maybe [] (λ (a : TraitContents). a.wheres) (trait_at c r.def_id.0) → ClauseListFits c.trees xs → ClausesAreOwned c.trees (args_forest c.trees r.args) xs
wheres_owned c t l r f xs e fit =
    let o = O.Definition r.def_id.0 in
    clauses-owned c o (args_forest c.trees r.args) (takes-them c TraitSort r.def_id.0 (args_forest c.trees r.args) f) xs fit
    (λ m. ap (λ (ys : List Clause). list_any (test c m) (held_clauses o ys)) e ∙ trait-wheres c o (trait_at c r.def_id.0) m (trait-owns c t l m r.def_id.0))

among-bounds : (c : Context) (o : Owner) (k : AliasBoundKind) (x : Option Bounds) (m : Misplaced) → list_any (test c m) (if_there (bounds_held o) x) ≡ false
    → list_any (test c m) (held_clauses o (maybe [] (bounds_among k) x)) ≡ false
among-bounds c o k None m f = refl
among-bounds c o B.SelfBounds (Some a) m f = any-of (test c m) (held_clauses o a.self_bounds) (held_clauses o a.non_self_bounds) f
among-bounds c o B.NonSelfBounds (Some a) m f = any-right (test c m) (held_clauses o a.self_bounds) (held_clauses o a.non_self_bounds) f

pub bounds_owned : (c : Context) → IsWellFormedTable c → length c.contents.bounds ≤ no_place → (a : AliasTy) → AliasArgumentsFit c a → (k : AliasBoundKind)
    → (xs : List Clause) → xs ≡ maybe [] (bounds_among k) (bounds_at c a.id.0) → ClauseListFits c.trees xs → ClausesAreOwned c.trees (args_forest c.trees a.args) xs
bounds_owned c t l a f k xs e fit =
    let o = O.Definition a.id.0 in
    clauses-owned c o (args_forest c.trees a.args) (alias-takes c a f) xs fit
    (λ m. ap (λ (ys : List Clause). list_any (test c m) (held_clauses o ys)) e ∙ among-bounds c o k (bounds_at c a.id.0) m (bounds-owned-by c t l m a.id.0))

-- Types

closed-types : (c : Context) (o : Owner) (ks : List VarKind) → kinds_of_owner c.declarations c.contents.impls o ≡ Some ks → (xs : List Ty)
    → ((m : Misplaced) → list_any (test c m) (held_types o xs) ≡ false) → All (λ x. tree_holds is_unsolved (ty_tree c.trees x) ≡ false) xs
closed-types c o ks k [] f = λ n d l. absurd (omega (arith, l))
closed-types c o ks k (x ∷ xs) f =
    let at : (m : Misplaced) → tree_holds (is_misplaced m ks) (ty_tree c.trees x) ≡ false = λ m. held-is c o ks k (held_type o x) refl m (or-left _ _ (f m)) in
    cons-types (λ y. tree_holds is_unsolved (ty_tree c.trees y) ≡ false) x xs
    (barred-tree ks is_unsolved (variable-barred ks) (ty_tree c.trees x) (at M.Past) (at M.Stray))
    (closed-types c o ks k xs (λ m. or-right _ _ (f m)))

adt-passes : (c : Context) (f : Held → Bool) (n : ℕ) (k : DefinitionKind) → length c.contents.adts ≤ no_place → list_any f (definition_held c.contents n k) ≡ false
    → list_any f (if_there (adt_held (O.Definition n)) (slice_get c.contents.adts (adt_place k))) ≡ false
adt-passes c f n (D.Adt _ _ _) l g = g
adt-passes c f n (D.Trait _ _) l g = nothing-passes AdtContents (adt_held (O.Definition n)) f c.contents.adts l
adt-passes c f n D.Foreign l g = nothing-passes AdtContents (adt_held (O.Definition n)) f c.contents.adts l
adt-passes c f n (D.Assoc _ _ _ _) l g = nothing-passes AdtContents (adt_held (O.Definition n)) f c.contents.adts l
adt-passes c f n (D.Alias _) l g = nothing-passes AdtContents (adt_held (O.Definition n)) f c.contents.adts l
adt-passes c f n (D.Opaque _ _) l g = nothing-passes AdtContents (adt_held (O.Definition n)) f c.contents.adts l
adt-passes c f n (D.Function _ _) l g = nothing-passes AdtContents (adt_held (O.Definition n)) f c.contents.adts l
adt-passes c f n (D.Closure _) l g = nothing-passes AdtContents (adt_held (O.Definition n)) f c.contents.adts l

adt-owns : (c : Context) → IsWellFormedTable c → length c.contents.adts ≤ no_place → (m : Misplaced) (n : ℕ) → list_any (test c m) (if_there (adt_held (O.Definition n)) (adt_at c n)) ≡ false
adt-owns c t l m n = of (slice_get c.declarations n) refl
  where
    of : (o : Option Declaration) → slice_get c.declarations n ≡ o → list_any (test c m) (if_there (adt_held (O.Definition n)) (adt_at c n)) ≡ false
    of None q = rw q (nothing-passes AdtContents (adt_held (O.Definition n)) (test c m) c.contents.adts l)
    of (Some d) q = rw q (adt-passes c (test c m) n d.kind l (own-pass c t m n d q))

adt-fields : (c : Context) (o : Owner) (x : Option AdtContents) (m : Misplaced) → list_any (test c m) (if_there (adt_held o) x) ≡ false
    → list_any (test c m) (held_types o (maybe [] (λ (a : AdtContents). a.fields) x)) ≡ false
adt-fields c o None m f = refl
adt-fields c o (Some a) m f = any-of (test c m) (held_types o a.fields) (option_held o a.sized ++ option_held o a.meta_sized) f

-- no variable stands in a field
pub fields_closed : (c : Context) → IsWellFormedTable c → length c.contents.adts ≤ no_place → (n : ℕ) (args : Forest) → parameters (world c) AdtSort n ≡ Some (kinds_of args)
    → (xs : List Ty) → xs ≡ maybe [] (λ (a : AdtContents). a.fields) (adt_at c n) → All (λ x. tree_holds is_unsolved (ty_tree c.trees x) ≡ false) xs
fields_closed c t l n args p xs e =
    let o = O.Definition n in
    let a = takes-them c AdtSort n args (joined-none (parameters (world c) AdtSort n) ∙ p) in
    closed-types c o a.ks a.owner xs (λ m. ap (λ (ys : List Ty). list_any (test c m) (held_types o ys)) e ∙ adt-fields c o (adt_at c n) m (adt-owns c t l m n))

hidden-passes : (f : Held → Bool) (c : Contents) (n : ℕ) (x : Ty) (k : DefinitionKind) → Some x ≡ hidden_type (Some k) → list_any f (definition_held c n k) ≡ false
    → f (held_type (O.Definition n) x) ≡ false
hidden-passes f c n x (D.Opaque hidden p) e g =
    let same : x ≡ hidden = cc in
    ap (λ (y : Ty). f (held_type (O.Definition n) y)) same ∙ or-left _ _ g
hidden-passes f c n x (D.Adt _ _ _) e g = absurd cc
hidden-passes f c n x (D.Trait _ _) e g = absurd cc
hidden-passes f c n x D.Foreign e g = absurd cc
hidden-passes f c n x (D.Assoc _ _ _ _) e g = absurd cc
hidden-passes f c n x (D.Alias _) e g = absurd cc
hidden-passes f c n x (D.Function _ _) e g = absurd cc
hidden-passes f c n x (D.Closure _) e g = absurd cc

-- nor in a type that is hidden
hidden_closed : (c : Context) → IsWellFormedTable c → (n : ℕ) (args : Forest) → parameters (world c) OpaqueSort n ≡ Some (kinds_of args) → (x : Ty)
    → Some x ≡ hidden_type (definition c n) → tree_holds is_unsolved (ty_tree c.trees x) ≡ false
hidden_closed c t n args p x e = of (slice_get c.declarations n) refl
  where
    of : (o : Option Declaration) → slice_get c.declarations n ≡ o → tree_holds is_unsolved (ty_tree c.trees x) ≡ false
    of None q = let z : Some x ≡ None = e ∙ ap (λ (y : Option Declaration). hidden_type (kind_of_declared y)) q in absurd cc
    of (Some d) q =
        let a = takes-them c OpaqueSort n args (joined-none (parameters (world c) OpaqueSort n) ∙ p) in
        let is = e ∙ ap (λ (y : Option Declaration). hidden_type (kind_of_declared y)) q in
        let at : (m : Misplaced) → tree_holds (is_misplaced m a.ks) (ty_tree c.trees x) ≡ false =
        λ m. held-is c (O.Definition n) a.ks a.owner (held_type (O.Definition n) x) refl m (hidden-passes (test c m) c.contents n x d.kind is (own-pass c t m n d q)) in
        barred-tree a.ks is_unsolved (variable-barred a.ks) (ty_tree c.trees x) (at M.Past) (at M.Stray)

pub hidden_is_closed : (c : Context) → IsWellFormedTable c → (n : ℕ) (args : Forest) → parameters (world c) OpaqueSort n ≡ Some (kinds_of args) → (o : Option Ty)
    → o ≡ hidden_type (definition c n) → IfSome o (λ x. tree_holds is_unsolved (ty_tree c.trees x) ≡ false)
hidden_is_closed c t n args p None e = tt
hidden_is_closed c t n args p (Some x) e = hidden_closed c t n args p x e

-- an alias of a context has the arguments that it takes
pub alias_fits : (c : Context) (a : AliasTy) → IsArgs c.trees a.args → Takes (world c) (kind_tree c.trees (K.Alias a)) → AliasArgumentsFit c a
alias_fits c a k t =
    let e = row-list c.trees a.args.0 ArgumentsKind none refl refl k ∙ join-none (args_forest c.trees a.args) in
    subst (λ (ts : Forest). alias_kinds (world c) a.kind a.id.0 ≡ Some (kinds_of ts)) e (t refl)

-- What an impl says that an associated type is, is one of its types.

value-has : (P : Ty → Type 0) (n : AssocId) (vs : List AssocValue) → All P (types_of_values vs)
    → IfSome (option_map (λ (v : AssocValue). v.ty) (find (λ (v : AssocValue). v.assoc.0 == n.0) vs)) P
value-has P n [] a = tt
value-has P n (v ∷ vs) a = of (v.assoc.0 == n.0) refl (value-has P n vs (λ k d l. a (suc k) d (omega (arith, l))))
  where
    of : (b : Bool) → v.assoc.0 == n.0 ≡ b → IfSome (option_map (λ (w : AssocValue). w.ty) (find (λ (w : AssocValue). w.assoc.0 == n.0) vs)) P
        → IfSome (option_map (λ (w : AssocValue). w.ty) (find (λ (w : AssocValue). w.assoc.0 == n.0) (v ∷ vs))) P
    of true e more = rw e (a 0 v.ty (omega arith))
    of false e more = rw e more

each-type : (ts : List Tree) (xs : List Ty) → TypesFit ts xs → All (IsTy ts) xs
each-type ts [] f = λ n d l. absurd (omega (arith, l))
each-type ts (x ∷ xs) f =
    let first : IsTy ts x = cc in
    let rest : TypesFit ts xs = cc in
    cons-types (IsTy ts) x xs first (each-type ts xs rest)

pub value_sort : (ts : List Tree) (args : Forest) (n : AssocId) (x : Impl) → ImplIsOwned ts args x → IfSome (value_of n x) (IsTy ts)
value_sort ts args n x o = value-has (IsTy ts) n x.values (each-type ts (types_of_values x.values) o.values.fit)

pub value_has : (ts : List Tree) (args : Forest) (n : AssocId) (x : Impl) → ImplIsOwned ts args x → (P : Ty → Type 0) → (TypesAreOwned ts args (types_of_values x.values) → All P (types_of_values x.values))
    → IfSome (value_of n x) P
value_has ts args n x o P f = value-has P n x.values (f o.values)

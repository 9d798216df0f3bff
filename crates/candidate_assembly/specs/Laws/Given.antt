-- What is declared is there: what its numbers stand for stays as it is while a context grows.
use Rattle.std.proofs.Common.{zero, suc, Bool, true, false, not, ◌||◌, ◌∷◌, ◌≡◌, ℕ, ◌≤◌, length, Option, Some, None, List, [], map, refl, sym, ap, subst, ◌∙◌}
use Rattle.std.specs.List.{list_any}
use Rattle.std.specs.Prelude.{IfSome, ◌==◌, if◌then◌else◌, option_map, slice_get}
use Rattle.std.proofs.lemmas.Option.{slice_get-map}
use Rattle.ir_trees.specs.declared.decl.contents.Sizedness.{Sizedness}
use Rattle.ir_trees.specs.declared.decl.definition.AdtShape.{AdtShape}
use Rattle.ir_trees.specs.declared.decl.definition.AssocKind.TheVariants as A
use Rattle.ir_trees.specs.declared.decl.definition.DefinitionKind.{DefinitionKind}
use Rattle.ir_trees.specs.declared.decl.definition.DefinitionKind.TheVariants as D
use Rattle.ir_trees.specs.Declarations.Contents.{AdtContents, Bounds, TraitContents}
use Rattle.ir_trees.specs.Declarations.Context.{Context, definition_of, is_declared_trait, is_trait, is_unknown, lacks_trait, parameter_kind, sort_of, world}
use Rattle.ir_trees.specs.Declarations.Declaration.{Declaration}
use Rattle.ir_trees.specs.Declarations.Declaring.{adt_at, adt_place, bounds_at, bounds_place, no_place, place_of, trait_at, trait_place}
use Rattle.ir_trees.specs.Validity.Held.{definition_held}
use Rattle.ir_trees.specs.Declarations.Lookups.{adt_shape, assoc_trait, constraint, definition, kind_of_declared, maybe}
use Rattle.ir_trees.specs.Hierarchy.Supers.{supers_at}
use Rattle.ir_trees.specs.Syntax.Trees.{Kind, Tree}
use Rattle.ir_trees.specs.Validity.WellFormed.{AreGiven, IsWellFormedTable, TypesFit}
use Rattle.ir_trees.specs.Syntax.Words.{ClauseListFits, IsTy}
use Rattle.ir_trees.specs.Declarations.Worlds.{AdtSort, AssociatedTypeSort, DefinitionSort, OpaqueSort, TraitSort, parameters, parameters_of, sort_number}
use Rattle.ir_trees.proofs.Instantiation.Folding.{or-left, or-right}
use Rattle.ir_context.proofs.Validity.Given.{adt_given, bounds_given, constraint_fits, definition_given, fields_fit, self_bounds_fit, supers_fit, trait_given, wheres_fit}
use Rattle.candidate_assembly.specs.Goals.Projections.{trait_number}

-- What a data type, a trait, or what has bounds holds, if it is there: types and clauses that are given.

pub record AdtParts (ts : List Tree) (o : Option AdtContents) : Type 0 where
  pub fields : TypesFit ts (maybe [] (λ a. a.fields) o)
  pub constraints : (s : Sizedness) → IfSome (maybe None (constraint s) o) (λ t. IsTy ts t)

pub record TraitParts (ts : List Tree) (o : Option TraitContents) : Type 0 where
  pub supers : ClauseListFits ts (supers_at o)
  pub wheres : ClauseListFits ts (maybe [] (λ a. a.wheres) o)

abbrev pub BoundsParts : List Tree → Option Bounds → Type 0
BoundsParts ts o = ClauseListFits ts (maybe [] (λ b. b.self_bounds) o)

abbrev pub AdtIsGiven : Context → ℕ → Type 0
AdtIsGiven c n = AdtParts c.trees (adt_at c n)

abbrev pub TraitIsGiven : Context → ℕ → Type 0
TraitIsGiven c n = TraitParts c.trees (trait_at c n)

abbrev pub BoundsAreGiven : Context → ℕ → Type 0
BoundsAreGiven c n = BoundsParts c.trees (bounds_at c n)

no_adt : (ts : List Tree) → AdtParts ts None
no_adt ts = record { fields = refl; constraints = λ s. tt }

no_trait : (ts : List Tree) → TraitParts ts None
no_trait ts = record { supers = refl; wheres = refl }

-- The lists of what definitions hold are no longer than a machine counts, so that nothing stands at the place of what holds nothing.
pub record IsCounted (c : Context) : Type 0 where
  pub adts : length c.contents.adts ≤ no_place
  pub traits : length c.contents.traits ≤ no_place
  pub bounds : length c.contents.bounds ≤ no_place

-- All that is declared is given, whatever number is asked for.
pub record AllIsGiven (c : Context) : Type 0 where
  pub adts : (n : ℕ) → AdtIsGiven c n
  pub traits : (n : ℕ) → TraitIsGiven c n
  pub bounds : (n : ℕ) → BoundsAreGiven c n

counted_adt : (c : Context) → IsWellFormedTable c → IsCounted c → (n : ℕ) → AdtIsGiven c n
counted_adt c t l n = of (adt_at c n) refl
  where
    of : (o : Option AdtContents) → adt_at c n ≡ o → AdtParts c.trees o
    of None q = no_adt c.trees
    of (Some a) q =
        let all = adt_given c t l.adts n in
        let there = rw q at all in
        record { fields = fields_fit c _ a there; constraints = λ s. constraint_fits c _ s a there }

counted_trait : (c : Context) → IsWellFormedTable c → IsCounted c → (n : ℕ) → TraitIsGiven c n
counted_trait c t l n = of (trait_at c n) refl
  where
    of : (o : Option TraitContents) → trait_at c n ≡ o → TraitParts c.trees o
    of None q = no_trait c.trees
    of (Some a) q =
        let all = trait_given c t l.traits n in
        let there = rw q at all in
        record { supers = supers_fit c _ a there; wheres = wheres_fit c _ a there }

counted_bounds : (c : Context) → IsWellFormedTable c → IsCounted c → (n : ℕ) → BoundsAreGiven c n
counted_bounds c t l n = of (bounds_at c n) refl
  where
    of : (o : Option Bounds) → bounds_at c n ≡ o → BoundsParts c.trees o
    of None q = refl
    of (Some b) q =
        let all = bounds_given c t l.bounds n in
        let there = rw q at all in
        self_bounds_fit c _ b there

pub all_is_given : (c : Context) → IsWellFormedTable c → IsCounted c → AllIsGiven c
all_is_given c t l = record { adts = counted_adt c t l; traits = counted_trait c t l; bounds = counted_bounds c t l }

-- Where a number is of a definition of the sort, what it holds is given, however long the lists are.

abbrev if_sort : DefinitionSort → DefinitionKind → List Kind → Option (List Kind)
if_sort s k ps = if sort_number (sort_of k) == sort_number s then Some ps else None

declared : (c : Context) → IsWellFormedTable c → (s : DefinitionSort) (n : ℕ) (ks : List Kind) → parameters (world c) s n ≡ Some ks → (P : Option Declaration → Type 0)
    → ((d : Declaration) → if_sort s d.kind (map parameter_kind d.parameters) ≡ Some ks → AreGiven c (definition_held c.contents n d.kind) → P (Some d)) → P (slice_get c.declarations n)
declared c t s n ks p P f = of (slice_get c.declarations n) refl
  where
    there : parameters_of s (option_map definition_of (slice_get c.declarations n)) ≡ Some ks
    there = sym (ap (parameters_of s) (slice_get-map definition_of c.declarations n)) ∙ p

    of : (o : Option Declaration) → slice_get c.declarations n ≡ o → P (slice_get c.declarations n)
    of None q = let no : None ≡ Some ks = sym (ap (λ (o : Option Declaration). parameters_of s (option_map definition_of o)) q) ∙ there in absurd cc
    of (Some d) q =
        subst P (sym q)
        (f d (sym (ap (λ (o : Option Declaration). parameters_of s (option_map definition_of o)) q) ∙ there)
        (subst (λ (o : Option Declaration). IfSome (kind_of_declared o) (λ k. AreGiven c (definition_held c.contents n k))) q (definition_given c t n)))

adt-of : (c : Context) (n : ℕ) (k : DefinitionKind) (ps ks : List Kind) → if_sort AdtSort k ps ≡ Some ks → AreGiven c (definition_held c.contents n k) → AdtParts c.trees (slice_get c.contents.adts (adt_place k))
adt-of c n (D.Adt shape flags p) ps ks e g = of (slice_get c.contents.adts p) refl
  where
    of : (o : Option AdtContents) → slice_get c.contents.adts p ≡ o → AdtParts c.trees o
    of None q = no_adt c.trees
    of (Some a) q =
        let there = rw q at g in
        record { fields = fields_fit c _ a there; constraints = λ s. constraint_fits c _ s a there }
adt-of c n (D.Assoc of A.Type sized p) ps ks e g = absurd cc
adt-of c n (D.Assoc of A.Const sized p) ps ks e g = absurd cc
adt-of c n _ ps ks e g = absurd cc

pub declared_adt : (c : Context) → IsWellFormedTable c → (n : ℕ) (ks : List Kind) → parameters (world c) AdtSort n ≡ Some ks → AdtIsGiven c n
declared_adt c t n ks p =
    declared c t AdtSort n ks p (λ (o : Option Declaration). AdtParts c.trees (slice_get c.contents.adts (place_of adt_place o)))
    (λ d e g. adt-of c n d.kind (map parameter_kind d.parameters) ks e g)

trait-of : (c : Context) (n : ℕ) (k : DefinitionKind) (ps ks : List Kind) → if_sort TraitSort k ps ≡ Some ks → AreGiven c (definition_held c.contents n k)
    → TraitParts c.trees (slice_get c.contents.traits (trait_place k))
trait-of c n (D.Trait flags p) ps ks e g = of (slice_get c.contents.traits p) refl
  where
    of : (o : Option TraitContents) → slice_get c.contents.traits p ≡ o → TraitParts c.trees o
    of None q = no_trait c.trees
    of (Some a) q = let there = rw q at g in record { supers = supers_fit c _ a there; wheres = wheres_fit c _ a there }
trait-of c n (D.Assoc of A.Type sized p) ps ks e g = absurd cc
trait-of c n (D.Assoc of A.Const sized p) ps ks e g = absurd cc
trait-of c n _ ps ks e g = absurd cc

pub declared_trait : (c : Context) → IsWellFormedTable c → (n : ℕ) (ks : List Kind) → parameters (world c) TraitSort n ≡ Some ks → TraitIsGiven c n
declared_trait c t n ks p =
    declared c t TraitSort n ks p (λ (o : Option Declaration). TraitParts c.trees (slice_get c.contents.traits (place_of trait_place o)))
    (λ d e g. trait-of c n d.kind (map parameter_kind d.parameters) ks e g)

opaque-of : (c : Context) (n : ℕ) (k : DefinitionKind) (ps ks : List Kind) → if_sort OpaqueSort k ps ≡ Some ks → AreGiven c (definition_held c.contents n k)
    → BoundsParts c.trees (slice_get c.contents.bounds (bounds_place k))
opaque-of c n (D.Opaque hidden p) ps ks e g = of (slice_get c.contents.bounds p) refl
  where
    of : (o : Option Bounds) → slice_get c.contents.bounds p ≡ o → BoundsParts c.trees o
    of None q = refl
    of (Some b) q = let there = rw q at g in self_bounds_fit c _ b (or-right _ _ there)
opaque-of c n (D.Assoc of A.Type sized p) ps ks e g = absurd cc
opaque-of c n (D.Assoc of A.Const sized p) ps ks e g = absurd cc
opaque-of c n _ ps ks e g = absurd cc

pub declared_opaque : (c : Context) → IsWellFormedTable c → (n : ℕ) (ks : List Kind) → parameters (world c) OpaqueSort n ≡ Some ks → BoundsAreGiven c n
declared_opaque c t n ks p =
    declared c t OpaqueSort n ks p (λ (o : Option Declaration). BoundsParts c.trees (slice_get c.contents.bounds (place_of bounds_place o)))
    (λ d e g. opaque-of c n d.kind (map parameter_kind d.parameters) ks e g)

-- So it is where a definition has a shape.

pub shaped_adt : (c : Context) → IsWellFormedTable c → (n : ℕ) (shape : AdtShape) → adt_shape (definition c n) ≡ Some shape → AdtIsGiven c n
shaped_adt c t n shape e = of (slice_get c.declarations n) refl
  where
    by : (k : DefinitionKind) → adt_shape (Some k) ≡ Some shape → AreGiven c (definition_held c.contents n k) → AdtParts c.trees (slice_get c.contents.adts (adt_place k))
    by (D.Adt s flags p) q g = adt-of c n (D.Adt s flags p) [] [] refl g
    by _ q g = absurd cc

    of : (o : Option Declaration) → slice_get c.declarations n ≡ o → AdtIsGiven c n
    of None q = let no : None ≡ Some shape = sym (ap (λ (o : Option Declaration). adt_shape (kind_of_declared o)) q) ∙ e in absurd cc
    of (Some d) q =
        subst (λ (o : Option Declaration). AdtParts c.trees (slice_get c.contents.adts (place_of adt_place o))) (sym q)
        (by d.kind (sym (ap (λ (o : Option Declaration). adt_shape (kind_of_declared o)) q) ∙ e)
        (subst (λ (o : Option Declaration). IfSome (kind_of_declared o) (λ k. AreGiven c (definition_held c.contents n k))) q (definition_given c t n)))

-- Where a number is that of a trait, and where it is that of an associated type, whose trait it then is.

pub named_trait : (c : Context) → IsWellFormedTable c → (n : ℕ) → is_declared_trait (slice_get c.declarations n) ≡ true → TraitIsGiven c n
named_trait c t n e = of (slice_get c.declarations n) refl
  where
    by : (k : DefinitionKind) → is_trait k ≡ true → AreGiven c (definition_held c.contents n k) → TraitParts c.trees (slice_get c.contents.traits (trait_place k))
    by (D.Trait flags p) q g = trait-of c n (D.Trait flags p) [] [] refl g
    by _ q g = absurd cc

    of : (o : Option Declaration) → slice_get c.declarations n ≡ o → TraitIsGiven c n
    of None q = let no : false ≡ true = sym (ap is_declared_trait q) ∙ e in absurd cc
    of (Some d) q =
        subst (λ (o : Option Declaration). TraitParts c.trees (slice_get c.contents.traits (place_of trait_place o))) (sym q)
        (by d.kind (sym (ap is_declared_trait q) ∙ e)
        (subst (λ (o : Option Declaration). IfSome (kind_of_declared o) (λ k. AreGiven c (definition_held c.contents n k))) q (definition_given c t n)))

none-at : {X : Type 0} (p : X → Bool) (xs : List X) (n : ℕ) (x : X) → list_any p xs ≡ false → slice_get xs n ≡ Some x → p x ≡ false
none-at p [] n x e s = absurd cc
none-at p (y ∷ ys) zero x e s = let same : x ≡ y = cc in ap p same ∙ or-left (p y) (list_any p ys) e
none-at p (y ∷ ys) (suc n) x e s = none-at p ys n x (or-right (p y) (list_any p ys) e) s

none-lacks : (c : Context) → IsWellFormedTable c → list_any (λ d. lacks_trait c.declarations d.kind) c.declarations ≡ false
unfolding IsWellFormedTable
none-lacks c t =
    let unknown = list_any (λ d. is_unknown c.crates d.crate) c.declarations in
    let none = list_any (λ d. lacks_trait c.declarations d.kind) c.declarations in
    let local = is_unknown c.crates c.local in
    or-right unknown none (or-right local (unknown || none) (or-right c.contents.misnamed (local || (unknown || none)) t.definitions))

not-false : (b : Bool) → not b ≡ false → b ≡ true
not-false true e = refl
not-false false e = absurd cc

pub item_trait_given : (c : Context) → IsWellFormedTable c → (n : ℕ) (ks : List Kind) → parameters (world c) AssociatedTypeSort n ≡ Some ks → TraitIsGiven c (trait_number (assoc_trait (definition c n)))
item_trait_given c t n ks p = of (slice_get c.declarations n) refl
  where
    there : parameters_of AssociatedTypeSort (option_map definition_of (slice_get c.declarations n)) ≡ Some ks
    there = sym (ap (parameters_of AssociatedTypeSort) (slice_get-map definition_of c.declarations n)) ∙ p

    by : (k : DefinitionKind) (ps : List Kind) → if_sort AssociatedTypeSort k ps ≡ Some ks → lacks_trait c.declarations k ≡ false → TraitIsGiven c (trait_number (assoc_trait (Some k)))
    by (D.Assoc i A.Type sized place) ps e l = named_trait c t i.0 (not-false (is_declared_trait (slice_get c.declarations i.0)) l)
    by (D.Assoc i A.Const sized place) ps e l = absurd cc
    by _ ps e l = absurd cc

    of : (o : Option Declaration) → slice_get c.declarations n ≡ o → TraitIsGiven c (trait_number (assoc_trait (definition c n)))
    of None q = let no : None ≡ Some ks = sym (ap (λ (o : Option Declaration). parameters_of AssociatedTypeSort (option_map definition_of o)) q) ∙ there in absurd cc
    of (Some d) q =
        subst (λ (o : Option Declaration). TraitIsGiven c (trait_number (assoc_trait (kind_of_declared o)))) (sym q)
        (by d.kind (map parameter_kind d.parameters) (sym (ap (λ (o : Option Declaration). parameters_of AssociatedTypeSort (option_map definition_of o)) q) ∙ there)
        (none-at (λ d. lacks_trait c.declarations d.kind) c.declarations n d (none-lacks c t) q))

-- The traits that are lang items have the parameters of their items.
use Rattle.std.proofs.Common.{◌≡◌, ℕ, zero, suc, Bool, true, false, not, ◌&&◌, ◌==◌, length, subst, List, [], ◌∷◌, arith, eqb-true, ne_eqb, map, Option, Some, None, refl, sym, ap, ◌∙◌, slice_index_or}
use Rattle.std.specs.Prelude.{IfSome, option_map, slice_get}
use Rattle.std.specs.List.{list_any}
use Rattle.std.proofs.lemmas.Option.{slice_get-map}
use Rattle.ir_trees.specs.declared.decl.contents.LangItem.{LangItem}
use Rattle.ir_trees.specs.declared.decl.contents.LangItem.TheVariants as L
use Rattle.ir_trees.specs.declared.decl.definition.DefinitionKind.{DefinitionKind}
use Rattle.ir_trees.specs.declared.decl.definition.DefinitionKind.TheVariants as D
use Rattle.ir_trees.specs.declared.ir.kinds.TraitId.{TraitId}
use Rattle.ir_trees.specs.declared.ir.kinds.VarKind.{VarKind}
use Rattle.ir_trees.specs.declared.ir.kinds.VarKind.TheVariants as V
use Rattle.ir_trees.specs.Declarations.Context.{Context, begins_with_type, definition_of, is_declared_trait, is_empty, is_trait, parameter_kind, world}
use Rattle.ir_trees.specs.Declarations.Declaration.{Declaration}
use Rattle.ir_trees.specs.Declarations.Declaring.{item_number, takes_a_type}
use Rattle.ir_trees.specs.Validity.Faults.{all_items, impl_misnames, item_has_wrong_arity, item_misnames, lacks_item_parameters, trait_lacks_item_parameters}
use Rattle.ir_trees.specs.Syntax.Trees.{TypeKind}
use Rattle.ir_trees.specs.Validity.WellFormed.{IsWellFormedTable}
use Rattle.ir_trees.specs.Declarations.Worlds.{TraitSort, parameters, parameters_of}
use Rattle.ir_trees.proofs.Instantiation.Folding.{or-left, or-right}
use Rattle.candidate_assembly.specs.Goals.TraitGoals.{is_item, is_trait as is_trait_numbered, item_trait}

-- what no element of a list passes
none-at : {X : Type 0} (p : X → Bool) (xs : List X) (n : ℕ) (x : X) → list_any p xs ≡ false → slice_get xs n ≡ Some x → p x ≡ false
none-at p [] n x e s = absurd cc
none-at p (y ∷ ys) zero x e s = let same : x ≡ y = cc in ap p same ∙ or-left (p y) (list_any p ys) e
none-at p (y ∷ ys) (suc n) x e s = none-at p ys n x (or-right (p y) (list_any p ys) e) s

none-there : {X : Type 0} (p : Option X → Bool) (xs : List (Option X)) (n : ℕ) (x : X) → list_any p xs ≡ false → slice_index_or xs n None ≡ Some x → p (Some x) ≡ false
none-there p [] n x e s = absurd cc
none-there p (y ∷ ys) zero x e s = let same : y ≡ Some x = s in ap p (sym same) ∙ or-left (p y) (list_any p ys) e
none-there p (y ∷ ys) (suc n) x e s = none-there p ys n x (or-right (p y) (list_any p ys) e) s

item-at : (item : LangItem) → slice_get all_items (item_number item) ≡ Some item
item-at L.Sized = refl
item-at L.MetaSized = refl
item-at L.Copy = refl
item-at L.Clone = refl
item-at L.TrivialClone = refl
item-at L.Fn = refl
item-at L.FnMut = refl
item-at L.FnOnce = refl
item-at L.FnPtrTrait = refl
item-at L.Tuple = refl
item-at L.PointeeTrait = refl
item-at L.DiscriminantKind = refl
item-at L.Destruct = refl
item-at L.Drop = refl
item-at L.BikeshedGuaranteedNoDrop = refl
item-at L.Unsize = refl

-- A trait without parameters, by its declaration.
of-declared : (item : LangItem) (o : Option Declaration) → takes_a_type item ≡ false → not (is_declared_trait o) ≡ false → lacks_item_parameters item o ≡ false
    → parameters_of TraitSort (option_map definition_of o) ≡ Some []
of-declared item None a t l = absurd cc
of-declared item (Some d) a t l = of d.kind t (empty d.parameters (rw a at l))
  where
    empty : (ks : List VarKind) → not (is_empty ks) ≡ false → map parameter_kind ks ≡ []
    empty [] e = refl
    empty (k ∷ ks) e = absurd cc

    of : (k : DefinitionKind) → not (is_trait k) ≡ false → map parameter_kind d.parameters ≡ [] → parameters_of TraitSort (Some (definition_of (record d { kind = k }))) ≡ Some []
    of (D.Trait flags n) t e = ap Some e
    of (D.Adt shape flags n) t e = absurd cc
    of D.Foreign t e = absurd cc
    of (D.Assoc owner sort sized n) t e = absurd cc
    of (D.Alias shape) t e = absurd cc
    of (D.Opaque hidden n) t e = absurd cc
    of (D.Function flags sig) t e = absurd cc
    of (D.Closure constant) t e = absurd cc

pub item-parameters : (c : Context) → IsWellFormedTable c → (item : LangItem) → takes_a_type item ≡ false → IfSome (item_trait c item) (λ i. parameters (world c) TraitSort i.0 ≡ Some [])
unfolding IsWellFormedTable
item-parameters c t item a = of (item_trait c item) refl
  where
    of : (o : Option TraitId) → item_trait c item ≡ o → IfSome o (λ i. parameters (world c) TraitSort i.0 ≡ Some [])
    of None e = tt
    of (Some i) e =
        let is_trait = none-there (item_misnames c.declarations) c.contents.lang_items (item_number item) i
        (or-right (list_any (impl_misnames c.crates c.declarations _) c.contents.impls) (list_any (item_misnames c.declarations) c.contents.lang_items) t.impls) e in
        let arity : item_has_wrong_arity c.declarations c.contents.lang_items item ≡ false = none-at (item_has_wrong_arity c.declarations c.contents.lang_items) all_items (item_number item) item t.items (item-at item) in
        let takes : lacks_item_parameters item (slice_get c.declarations i.0) ≡ false = ap (trait_lacks_item_parameters item c.declarations) (sym e) ∙ arity in
        ap (parameters_of TraitSort) (slice_get-map definition_of c.declarations i.0) ∙ of-declared item (slice_get c.declarations i.0) a is_trait takes

numbers-same : (m n : ℕ) → (m == n) ≡ true → m ≡ n
numbers-same m n e = eqb-true m n e

many-not-one : (n : ℕ) (b : Bool) → not ((suc (suc n) == 1) && b) ≡ true
many-not-one n b = ap (λ (x : Bool). not (x && b)) (ne_eqb (suc (suc n)) 1 (λ e. omega (arith, e)))

-- The same of the items whose trait takes a type.
typed-declared : (item : LangItem) (o : Option Declaration) → takes_a_type item ≡ true → not (is_declared_trait o) ≡ false → lacks_item_parameters item o ≡ false
    → parameters_of TraitSort (option_map definition_of o) ≡ Some (TypeKind ∷ [])
typed-declared item None a t l = absurd cc
typed-declared item (Some d) a t l = of d.kind t (one d.parameters (rw a at l))
  where
    one : (ks : List VarKind) → not ((length ks == 1) && begins_with_type ks) ≡ false → map parameter_kind ks ≡ TypeKind ∷ []
    one [] e = absurd cc
    one (V.Ty ∷ []) e = refl
    one (V.Const ∷ []) e = absurd cc
    one (V.Region ∷ []) e = absurd cc
    one (k ∷ (j ∷ ks)) e = let many = many-not-one (length ks) (begins_with_type (k ∷ (j ∷ ks))) in absurd cc

    of : (k : DefinitionKind) → not (is_trait k) ≡ false → map parameter_kind d.parameters ≡ TypeKind ∷ [] → parameters_of TraitSort (Some (definition_of (record d { kind = k }))) ≡ Some (TypeKind ∷ [])
    of (D.Trait flags n) t e = ap Some e
    of (D.Adt shape flags n) t e = absurd cc
    of D.Foreign t e = absurd cc
    of (D.Assoc owner sort sized n) t e = absurd cc
    of (D.Alias shape) t e = absurd cc
    of (D.Opaque hidden n) t e = absurd cc
    of (D.Function flags sig) t e = absurd cc
    of (D.Closure constant) t e = absurd cc

pub item-takes-a-type : (c : Context) → IsWellFormedTable c → (item : LangItem) → takes_a_type item ≡ true → (n : ℕ) → is_item c item n ≡ true → parameters (world c) TraitSort n ≡ Some (TypeKind ∷ [])
unfolding IsWellFormedTable
item-takes-a-type c t item a n is = of (item_trait c item) refl is
  where
    of : (o : Option TraitId) → item_trait c item ≡ o → is_trait_numbered n o ≡ true → parameters (world c) TraitSort n ≡ Some (TypeKind ∷ [])
    of None e is = absurd cc
    of (Some i) e is =
        let is_trait = none-there (item_misnames c.declarations) c.contents.lang_items (item_number item) i
        (or-right (list_any (impl_misnames c.crates c.declarations _) c.contents.impls) (list_any (item_misnames c.declarations) c.contents.lang_items) t.impls) e in
        let arity : item_has_wrong_arity c.declarations c.contents.lang_items item ≡ false = none-at (item_has_wrong_arity c.declarations c.contents.lang_items) all_items (item_number item) item t.items (item-at item) in
        let takes : lacks_item_parameters item (slice_get c.declarations i.0) ≡ false = ap (trait_lacks_item_parameters item c.declarations) (sym e) ∙ arity in
        let here : parameters (world c) TraitSort i.0 ≡ Some (TypeKind ∷ []) = ap (parameters_of TraitSort) (slice_get-map definition_of c.declarations i.0) ∙ typed-declared item (slice_get c.declarations i.0) a is_trait takes in
        let same : i.0 ≡ n = numbers-same i.0 n is in
        subst (λ m. parameters (world c) TraitSort m ≡ Some (TypeKind ∷ [])) same here

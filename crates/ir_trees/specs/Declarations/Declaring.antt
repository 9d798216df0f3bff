-- What the builder's calls make of what is declared so far.
use Rattle.std.specs.Prelude.{ℕ, Bool, true, false, List, [], ◌∷◌, ◌++◌, length, Option, Some, None, slice_get, slice_set}
use Rattle.ir_trees.specs.declared.ir.kinds.VarKind.{VarKind}
use Rattle.ir_trees.specs.declared.ir.kinds.Ty.{Ty}
use Rattle.ir_trees.specs.declared.ir.kinds.Clause.{Clause}
use Rattle.ir_trees.specs.declared.ir.kinds.AssocId.{AssocId}
use Rattle.ir_trees.specs.declared.ir.kinds.TraitId.{TraitId}
use Rattle.ir_trees.specs.declared.ir.kinds.TraitRef.{TraitRef}
use Rattle.ir_trees.specs.declared.decl.definition.CrateId.{CrateId}
use Rattle.ir_trees.specs.declared.decl.definition.AdtShape.{AdtShape}
use Rattle.ir_trees.specs.declared.decl.definition.AdtFlags.{AdtFlags}
use Rattle.ir_trees.specs.declared.decl.definition.TraitFlags.{TraitFlags}
use Rattle.ir_trees.specs.declared.decl.definition.AssocKind.{AssocKind}
use Rattle.ir_trees.specs.declared.decl.definition.AssocKind.TheVariants as A
use Rattle.ir_trees.specs.declared.decl.definition.DefinitionKind.{DefinitionKind}
use Rattle.ir_trees.specs.declared.decl.definition.DefinitionKind.TheVariants as D
use Rattle.ir_trees.specs.declared.decl.contents.ImplId.{ImplId}
use Rattle.ir_trees.specs.declared.decl.contents.ImplPolarity.{ImplPolarity}
use Rattle.ir_trees.specs.declared.decl.contents.Sizedness.{Sizedness}
use Rattle.ir_trees.specs.declared.decl.contents.Sizedness.TheVariants as S
use Rattle.ir_trees.specs.declared.decl.contents.AliasBoundKind.{AliasBoundKind}
use Rattle.ir_trees.specs.declared.decl.contents.AliasBoundKind.TheVariants as K
use Rattle.ir_trees.specs.declared.decl.contents.LangItem.{LangItem}
use Rattle.ir_trees.specs.declared.decl.contents.LangItem.TheVariants as L
use Rattle.ir_trees.specs.declared.decl.contents.Contents.{Contents as Kept}
use Rattle.ir_trees.specs.Declarations.Declaration.{Declaration}
use Rattle.ir_trees.specs.Declarations.Contents.{AdtContents, TraitContents, Bounds, Impl, Contents}
use Rattle.ir_trees.specs.Declarations.Context.{Context, crate_of, parameters_of}

-- The place of what has no contents of the sort; no list is so long.
abbrev pub no_place : ℕ
no_place = 18446744073709551615

abbrev pub adt_place : DefinitionKind → ℕ
adt_place (D.Adt shape flags n) = n
adt_place _ = no_place

abbrev pub trait_place : DefinitionKind → ℕ
trait_place (D.Trait flags n) = n
trait_place _ = no_place

-- of associated types and opaque types
abbrev pub bounds_place : DefinitionKind → ℕ
bounds_place (D.Assoc of A.Type sized n) = n
bounds_place (D.Opaque hidden n) = n
bounds_place _ = no_place

abbrev pub place_of : (DefinitionKind → ℕ) → Option Declaration → ℕ
place_of f None = no_place
place_of f (Some d) = f d.kind

-- where the contents of the definition stand
abbrev pub place : (DefinitionKind → ℕ) → List Declaration → ℕ → ℕ
place f ds i = place_of f (slice_get ds i)

abbrev pub adt_at : Context → ℕ → Option AdtContents
adt_at c i = slice_get c.contents.adts (place adt_place c.declarations i)

abbrev pub trait_at : Context → ℕ → Option TraitContents
trait_at c i = slice_get c.contents.traits (place trait_place c.declarations i)

abbrev pub bounds_at : Context → ℕ → Option Bounds
bounds_at c i = slice_get c.contents.bounds (place bounds_place c.declarations i)

abbrev pub impl_at : Context → ImplId → Option Impl
impl_at c i = slice_get c.contents.impls i.0

-- A call has named what was never given.
abbrev pub misnaming : Contents → Contents
misnaming c = record c { misnamed = true }

abbrev pub adt_changed : ℕ → (AdtContents → AdtContents) → Contents → Option AdtContents → Contents
adt_changed n f c None = misnaming c
adt_changed n f c (Some a) = record c { adts = slice_set c.adts n (f a) }

abbrev pub trait_changed : ℕ → (TraitContents → TraitContents) → Contents → Option TraitContents → Contents
trait_changed n f c None = misnaming c
trait_changed n f c (Some t) = record c { traits = slice_set c.traits n (f t) }

abbrev pub bounds_changed : ℕ → (Bounds → Bounds) → Contents → Option Bounds → Contents
bounds_changed n f c None = misnaming c
bounds_changed n f c (Some b) = record c { bounds = slice_set c.bounds n (f b) }

abbrev pub impl_changed : ℕ → (Impl → Impl) → Contents → Option Impl → Contents
impl_changed n f c None = misnaming c
impl_changed n f c (Some i) = record c { impls = slice_set c.impls n (f i) }

-- The contents of the definition, changed; where there is none of the sort, it was misnamed.
abbrev pub with_adt : ℕ → (AdtContents → AdtContents) → Context → Context
with_adt i f c = record c { contents = adt_changed (place adt_place c.declarations i) f c.contents (adt_at c i) }

abbrev pub with_trait : ℕ → (TraitContents → TraitContents) → Context → Context
with_trait i f c = record c { contents = trait_changed (place trait_place c.declarations i) f c.contents (trait_at c i) }

abbrev pub with_bounds : ℕ → (Bounds → Bounds) → Context → Context
with_bounds i f c = record c { contents = bounds_changed (place bounds_place c.declarations i) f c.contents (bounds_at c i) }

abbrev pub with_impl : ImplId → (Impl → Impl) → Context → Context
with_impl i f c = record c { contents = impl_changed i.0 f c.contents (impl_at c i) }

-- one more declaration, with contents
abbrev pub declared_with : Declaration → Contents → Context → Context
declared_with d contents c = record c { declarations = c.declarations ++ d ∷ []; contents = contents }

abbrev pub no_bounds : Bounds
no_bounds = record { self_bounds = []; non_self_bounds = [] }

abbrev pub with_empty_adt : Contents → Contents
with_empty_adt c = record c { adts = c.adts ++ record { fields = []; sized = None; meta_sized = None; destructor = None; unsizing = [] } ∷ [] }

abbrev pub with_empty_trait : Contents → Contents
with_empty_trait c = record c { traits = c.traits ++ record { supers = []; wheres = []; items = []; impls = [] } ∷ [] }

abbrev pub with_empty_bounds : Contents → Contents
with_empty_bounds c = record c { bounds = c.bounds ++ no_bounds ∷ [] }

abbrev pub declared_adt : CrateId → List VarKind → AdtShape → AdtFlags → Context → Context
declared_adt crate kinds shape flags c =
    declared_with (record { crate = crate; parameters = kinds; kind = D.Adt shape flags (length c.contents.adts) }) (with_empty_adt c.contents) c

abbrev pub declared_trait : CrateId → List VarKind → TraitFlags → Context → Context
declared_trait crate kinds flags c =
    declared_with (record { crate = crate; parameters = kinds; kind = D.Trait flags (length c.contents.traits) }) (with_empty_trait c.contents) c

abbrev pub declared_opaque : CrateId → List VarKind → Ty → Context → Context
declared_opaque crate kinds hidden c =
    declared_with (record { crate = crate; parameters = kinds; kind = D.Opaque hidden (length c.contents.bounds) }) (with_empty_bounds c.contents) c

-- the traits, where the one at that place has one more item; where there is none, they are as they were
abbrev pub entered : ℕ → (TraitContents → TraitContents) → List TraitContents → Option TraitContents → List TraitContents
entered n f ts None = ts
entered n f ts (Some t) = slice_set ts n (f t)

abbrev pub with_item : List Declaration → TraitId → AssocId → Contents → Contents
with_item ds of item c =
    let n = place trait_place ds of.0 in
    record c { traits = entered n (λ t. record t { items = t.items ++ item ∷ [] }) c.traits (slice_get c.traits n) }

-- An associated item has the crate and the parameters of its trait; where the number is not declared yet, a crate that no
-- builder gives and no parameters, so that the declarations have a fault for good. It is entered with its trait.
abbrev pub declared_assoc : TraitId → AssocKind → Bool → Context → Context
declared_assoc of kind sized c =
    declared_with (record {
      crate = crate_of (slice_get c.declarations of.0);
      parameters = parameters_of (slice_get c.declarations of.0);
      kind = D.Assoc of kind sized (length c.contents.bounds);
    }) (with_empty_bounds (with_item c.declarations of (record { 0 = length c.declarations }) c.contents)) c

abbrev pub one_more_impl : Impl → Contents → Contents
one_more_impl i c = record c { impls = c.impls ++ i ∷ [] }

-- An impl is entered with the trait in that place; where there is none, that trait was misnamed.
abbrev pub with_impl_entered : ℕ → ImplId → Contents → Contents
with_impl_entered n impl c = trait_changed n (λ t. record t { impls = t.impls ++ impl ∷ [] }) c (slice_get c.traits n)

-- an impl as it is declared, of which nothing more is said yet
abbrev pub bare_impl : CrateId → List VarKind → TraitRef → ImplPolarity → Impl
bare_impl crate kinds trait_ref polarity = record {
  crate = crate;
  parameters = kinds;
  trait_ref = trait_ref;
  polarity = polarity;
  is_default = false;
  wheres = [];
  super_outlives = [];
  specializes = [];
  values = [];
}

-- An impl is entered with its trait, which has to be declared before it.
abbrev pub declared_impl : CrateId → List VarKind → TraitRef → ImplPolarity → Context → Context
declared_impl crate kinds trait_ref polarity c =
    record c {
      contents = one_more_impl (bare_impl crate kinds trait_ref polarity) (with_impl_entered (place trait_place c.declarations trait_ref.def_id.0) (record { 0 = length c.contents.impls }) c.contents);
    }

-- the type that has to be sized for this one to be
abbrev pub with_constraint : Sizedness → Ty → AdtContents → AdtContents
with_constraint S.Sized t a = record a { sized = Some t }
with_constraint S.MetaSized t a = record a { meta_sized = Some t }

abbrev pub with_bound : AliasBoundKind → Clause → Bounds → Bounds
with_bound K.SelfBounds x b = record b { self_bounds = b.self_bounds ++ x ∷ [] }
with_bound K.NonSelfBounds x b = record b { non_self_bounds = b.non_self_bounds ++ x ∷ [] }

-- no trait is a lang item
abbrev pub no_lang_items : List (Option TraitId)
no_lang_items = None ∷ None ∷ None ∷ None ∷ None ∷ None ∷ None ∷ None ∷ None ∷ None ∷ None ∷ None ∷ None ∷ None ∷ None ∷ None ∷ []

abbrev pub nothing : Contents
nothing = record { adts = []; traits = []; bounds = []; impls = []; lang_items = no_lang_items; misnamed = false }

-- their order
abbrev pub item_number : LangItem → ℕ
item_number L.Sized = 0
item_number L.MetaSized = 1
item_number L.Copy = 2
item_number L.Clone = 3
item_number L.TrivialClone = 4
item_number L.Fn = 5
item_number L.FnMut = 6
item_number L.FnOnce = 7
item_number L.FnPtrTrait = 8
item_number L.Tuple = 9
item_number L.PointeeTrait = 10
item_number L.DiscriminantKind = 11
item_number L.Destruct = 12
item_number L.Drop = 13
item_number L.BikeshedGuaranteedNoDrop = 14
item_number L.Unsize = 15

-- whether its trait has one parameter after `Self`, a type; those of the others have none
abbrev pub takes_a_type : LangItem → Bool
takes_a_type L.Fn = true
takes_a_type L.FnMut = true
takes_a_type L.FnOnce = true
takes_a_type L.Unsize = true
takes_a_type _ = false

-- the contents, as they are kept
abbrev pub contents_of : Kept → Contents
contents_of k = record {
  adts = k.adts.items;
  traits = k.traits.items;
  bounds = k.bounds.items;
  impls = k.impls.items;
  lang_items = k.lang_items;
  misnamed = k.misnamed;
}

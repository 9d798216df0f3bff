-- What has to hold for a value of a type to be dropped where a constant is computed.
use Rattle.std.specs.Prelude.{◌≡◌, ◌⊎◌, ℕ, Bool, true, false, Option, Some, None, List, [], ◌∷◌, ◌++◌, map, slice_get, slice_index_or, if◌then◌else◌}
use Rattle.ir_trees.specs.declared.decl.contents.Destructor.{Destructor}
use Rattle.ir_trees.specs.declared.decl.contents.Destructor.TheVariants as D
use Rattle.ir_trees.specs.declared.decl.contents.LangItem.{LangItem}
use Rattle.ir_trees.specs.declared.decl.contents.LangItem.TheVariants as L
use Rattle.ir_trees.specs.declared.ir.heads.Head.{Head}
use Rattle.ir_trees.specs.declared.ir.heads.Head.TheVariants as H
use Rattle.ir_trees.specs.declared.ir.kinds.TraitId.{TraitId}
use Rattle.ir_trees.specs.declared.ir.kinds.TraitRef.{TraitRef}
use Rattle.ir_trees.specs.declared.ir.stop.Stop.{Stop}
use Rattle.ir_trees.specs.declared.ir.stop.Stop.TheVariants.{Memory}
use Rattle.ir_trees.specs.declared.ir.kinds.TyKind.{TyKind}
use Rattle.ir_trees.specs.declared.ir.kinds.TyKind.TheVariants as K
use Rattle.ir_trees.specs.Syntax.Trees.{Tree}
use Rattle.ir_trees.specs.Declarations.Context.{Context}
use Rattle.ir_trees.specs.Declarations.Declaring.{adt_at, item_number}
use Rattle.ir_trees.specs.Instantiation.Folding.{IsSubstStop}
use Rattle.ir_trees.specs.Declarations.Lookups.{maybe, adt_flags, definition}
use Rattle.ir_trees.specs.Declarations.References.{reference_of}
use Rattle.ir_trees.specs.Unification.Substitutions.{alone}
use Rattle.ir_trees.specs.Declarations.Worlds.{Reference}
use Rattle.ir_trees.specs.Syntax.Words.{IsArgs}
use Rattle.candidate_eval.specs.declared.structural.destruct.OwnDrop.{OwnDrop}
use Rattle.candidate_eval.specs.declared.structural.destruct.OwnDrop.TheVariants as O
use Rattle.candidate_eval.specs.Builtins.Tables.{Cell, Asks, row_of, is_manually_drop}

-- the trait that is the lang item, if one is
abbrev pub lang : Context → LangItem → Option TraitId
lang c i = slice_index_or c.contents.lang_items (item_number i) None

abbrev pub meets : TraitId → Tree → Reference
meets i t = record { trait = i.0; arguments = alone t }

-- The trait of each of the types; where it isn't declared, that is refused.
abbrev pub each_meets : Option TraitId → List Tree → Option (List Reference)
each_meets None ts = None
each_meets (Some i) ts = Some (map (meets i) ts)

abbrev pub cell_meets : Option TraitId → Cell → Option (List Reference)
cell_meets o (Asks p) = each_meets o p.types
cell_meets o _ = None

-- the destructor that a type of its own has, and that is run
abbrev pub own_destructor : Context → Head → Option Destructor
own_destructor c (H.Adt i) = if is_manually_drop (adt_flags (definition c i.0)) then None else maybe None (λ a. a.destructor) (adt_at c i.0)
own_destructor c _ = None

-- It has to be one that constants can run.
abbrev pub own_conditions : Context → Tree → Option Destructor → Option (List Reference)
own_conditions c t None = Some []
own_conditions c t (Some D.NotConst) = None
own_conditions c t (Some D.Const) = each_meets (lang c L.Drop) (t ∷ [])

abbrev pub appended : Option (List Reference) → Option (List Reference) → Option (List Reference)
appended (Some a) (Some b) = Some (a ++ b)
appended _ _ = None

-- All types that the table asks about are `Destruct`, and then the type itself is `Drop` where it has a destructor.
abbrev pub destruct_conditions : Context → Tree → Option (List Reference)
destruct_conditions c t = appended (cell_meets (lang c L.Destruct) (row_of c t).destruct) (own_conditions c t (own_destructor c t.head))

-- What was made.

abbrev pub references_of : List Tree → List TraitRef → List Reference
references_of ts rs = map (reference_of ts) rs

abbrev pub AreReferences : List Tree → List TraitRef → Type 0
AreReferences ts [] = Unit {0}
AreReferences ts (r ∷ rs) = IsArgs ts r.args × AreReferences ts rs

-- One of the references was not made.
pub record IsReferenceStop (given : ℕ) (rs : List Reference) (s : Stop) : Type 0 where
  pub place : ℕ
  pub reference : Reference
  pub is : slice_get rs place ≡ Some reference
  pub stop : IsSubstStop given reference.arguments s

abbrev pub IsConditionsStop : ℕ → Option (List Reference) → Stop → Type 0
IsConditionsStop given None s = ⊥
IsConditionsStop given (Some rs) s = (s ≡ Memory) ⊎ IsReferenceStop given rs s

-- What the type itself has to meet, as it is read.

abbrev pub kind_destructor : Context → TyKind → Option Destructor
kind_destructor c (K.Adt i a) = if is_manually_drop (adt_flags (definition c i.0)) then None else maybe None (λ a. a.destructor) (adt_at c i.0)
kind_destructor c _ = None

abbrev pub drop_by : Option TraitId → OwnDrop
drop_by None = O.Refused
drop_by (Some i) = O.Drop i

abbrev pub own_drop_of : Context → Option Destructor → OwnDrop
own_drop_of c None = O.Nothing
own_drop_of c (Some D.NotConst) = O.Refused
own_drop_of c (Some D.Const) = drop_by (lang c L.Drop)

abbrev pub is_refused : OwnDrop → Bool
is_refused O.Refused = true
is_refused _ = false

abbrev pub own_references : Tree → OwnDrop → List Reference
own_references t (O.Drop i) = meets i t ∷ []
own_references t _ = []

abbrev pub all_references : TraitId → List Tree → Tree → OwnDrop → List Reference
all_references i ts t o = map (meets i) ts ++ own_references t o

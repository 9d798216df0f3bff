-- What is read of a definition or an impl, where it is one of the sort asked about.
use Rattle.std.specs.Prelude.{ℕ, Bool, false, Option, Some, None, ◌==◌, find, option_map, slice_get}
use Rattle.ir_trees.specs.declared.ir.kinds.Ty.{Ty}
use Rattle.ir_trees.specs.declared.ir.kinds.AssocId.{AssocId}
use Rattle.ir_trees.specs.declared.ir.kinds.TraitId.{TraitId}
use Rattle.ir_trees.specs.declared.ir.kinds.Binder.{Binder}
use Rattle.ir_trees.specs.declared.ir.kinds.FnSig.{FnSig}
use Rattle.ir_trees.specs.declared.decl.definition.AdtShape.{AdtShape}
use Rattle.ir_trees.specs.declared.decl.definition.AdtFlags.{AdtFlags}
use Rattle.ir_trees.specs.declared.decl.definition.TraitFlags.{TraitFlags}
use Rattle.ir_trees.specs.declared.decl.definition.FnFlags.{FnFlags}
use Rattle.ir_trees.specs.declared.decl.definition.AssocKind.{AssocKind}
use Rattle.ir_trees.specs.declared.decl.definition.DefinitionKind.{DefinitionKind}
use Rattle.ir_trees.specs.declared.decl.definition.DefinitionKind.TheVariants as D
use Rattle.ir_trees.specs.declared.decl.contents.AssocValue.{AssocValue}
use Rattle.ir_trees.specs.declared.decl.contents.Sizedness.{Sizedness}
use Rattle.ir_trees.specs.declared.decl.contents.Sizedness.TheVariants as S
use Rattle.ir_trees.specs.Declarations.Contents.{AdtContents, Impl}
use Rattle.ir_trees.specs.Declarations.Context.{Context}
use Rattle.ir_trees.specs.Declarations.Declaration.{Declaration}

-- what is said of something that is there, and else this
abbrev pub maybe : {X Y : Type 0} → Y → (X → Y) → Option X → Y
maybe y f None = y
maybe y f (Some x) = f x

abbrev pub kind_of_declared : Option Declaration → Option DefinitionKind
kind_of_declared None = None
kind_of_declared (Some d) = Some d.kind

abbrev pub definition : Context → ℕ → Option DefinitionKind
definition c n = kind_of_declared (slice_get c.declarations n)

-- of an algebraic data type
abbrev pub adt_shape : Option DefinitionKind → Option AdtShape
adt_shape (Some (D.Adt shape flags n)) = Some shape
adt_shape _ = None

abbrev pub adt_flags : Option DefinitionKind → Option AdtFlags
adt_flags (Some (D.Adt shape flags n)) = Some flags
adt_flags _ = None

abbrev pub constraint : Sizedness → AdtContents → Option Ty
constraint S.Sized a = a.sized
constraint S.MetaSized a = a.meta_sized

-- of a trait
abbrev pub trait_flags : Option DefinitionKind → Option TraitFlags
trait_flags (Some (D.Trait flags n)) = Some flags
trait_flags _ = None

-- of an associated item: its trait, what it is, whether it requires that `Self` is sized
abbrev pub assoc_trait : Option DefinitionKind → Option TraitId
assoc_trait (Some (D.Assoc of kind sized n)) = Some of
assoc_trait _ = None

abbrev pub assoc_kind : Option DefinitionKind → Option AssocKind
assoc_kind (Some (D.Assoc of kind sized n)) = Some kind
assoc_kind _ = None

abbrev pub requires_sized_self : Option DefinitionKind → Bool
requires_sized_self (Some (D.Assoc of kind sized n)) = sized
requires_sized_self _ = false

-- of an impl, what it says that the associated type is
abbrev pub value_of : AssocId → Impl → Option Ty
value_of n i = option_map (λ (v : AssocValue). v.ty) (find (λ (v : AssocValue). v.assoc.0 == n.0) i.values)

-- of an opaque type, the type that it hides
abbrev pub hidden_type : Option DefinitionKind → Option Ty
hidden_type (Some (D.Opaque hidden n)) = Some hidden
hidden_type _ = None

-- of a function and of a closure
abbrev pub fn_flags : Option DefinitionKind → Option FnFlags
fn_flags (Some (D.Function flags sig)) = Some flags
fn_flags _ = None

abbrev pub fn_sig : Option DefinitionKind → Option (Binder FnSig)
fn_sig (Some (D.Function flags sig)) = Some sig
fn_sig _ = None

abbrev pub is_const_closure : Option DefinitionKind → Bool
is_const_closure (Some (D.Closure constant)) = constant
is_const_closure _ = false

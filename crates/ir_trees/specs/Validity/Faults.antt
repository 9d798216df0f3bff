-- What is wrong with declarations.
use Rattle.std.specs.Prelude.{◌≡◌, ℕ, ◌<◌, Bool, true, false, not, ◌||◌, ◌&&◌, IsTrue, length, ◌⊎◌, List, [], ◌∷◌, Option, Some, None, slice_get, nat_le, nat_lt, count_by, ◌==◌, slice_index_or, if◌then◌else◌}
use Rattle.std.specs.List.{list_any}
use Rattle.ir_trees.specs.declared.ir.kinds.VarKind.{VarKind}
use Rattle.ir_trees.specs.declared.ir.kinds.TraitId.{TraitId}
use Rattle.ir_trees.specs.declared.decl.fault.DeclFault.{DeclFault}
use Rattle.ir_trees.specs.declared.decl.fault.DeclFault.TheVariants as F
use Rattle.ir_trees.specs.declared.decl.definition.AdtShape.{AdtShape}
use Rattle.ir_trees.specs.declared.decl.definition.AdtShape.TheVariants as Shape
use Rattle.ir_trees.specs.declared.decl.definition.DefinitionKind.{DefinitionKind}
use Rattle.ir_trees.specs.declared.decl.definition.DefinitionKind.TheVariants as D
use Rattle.ir_trees.specs.declared.decl.definition.AssocKind.TheVariants as A
use Rattle.ir_trees.specs.declared.decl.contents.AssocValue.{AssocValue}
use Rattle.ir_trees.specs.declared.decl.contents.ImplId.{ImplId}
use Rattle.ir_trees.specs.declared.decl.contents.LangItem.{LangItem}
use Rattle.ir_trees.specs.declared.decl.contents.LangItem.TheVariants as L
use Rattle.ir_trees.specs.Declarations.Declaring.{item_number, takes_a_type}
use Rattle.ir_trees.specs.declared.decl.held.Held.{Held}
use Rattle.ir_trees.specs.declared.decl.misplaced.Misplaced.TheVariants as M
use Rattle.ir_trees.specs.Declarations.Declaration.{Declaration}
use Rattle.ir_trees.specs.Declarations.Contents.{AdtContents, Impl, Contents}
use Rattle.ir_trees.specs.Declarations.Limits.{has_bad_limit}
use Rattle.ir_trees.specs.Declarations.Context.{Context, world, is_unknown, is_declared_trait, lacks_trait, has_wrong_arity, begins_with_type, is_empty}
use Rattle.ir_trees.specs.Validity.Held.{all_held}
use Rattle.ir_trees.specs.Validity.Misplaced.{is_not_given, held_misplaces, held_escapes}
use Rattle.ir_trees.specs.Hierarchy.Supers.{has_wrong_super}
use Rattle.ir_trees.specs.Hierarchy.Supertraits.{HasSupertraitCycle}
use Rattle.ir_trees.specs.Declarations.Names.{names_unknown}
use Rattle.ir_trees.specs.Declarations.References.{IsWellFormed}
use Rattle.ir_trees.specs.Syntax.Trees.{TypeKind, Tree}
use Rattle.ir_trees.specs.Syntax.Words.{IsArgs, args_forest}
use Rattle.ir_trees.specs.Declarations.Worlds.{World, TraitSort, joined, parameters, kinds_of}

-- all that declarations hold
abbrev pub all_that_is_held : Context → List Held
all_that_is_held c = all_held c.declarations c.contents

-- An impl is of a crate that wasn't added, of what is no trait, specialises what is no impl, or says what no definition is.
abbrev pub impl_misnames : ℕ → List Declaration → ℕ → Impl → Bool
impl_misnames crates ds count i =
    is_unknown crates i.crate
    || (not (is_declared_trait (slice_get ds i.trait_ref.def_id.0))
    || (list_any (λ (j : ImplId). nat_le count j.0) i.specializes || list_any (λ (v : AssocValue). nat_le (length ds) v.assoc.0) i.values))

-- a lang item that is no trait
abbrev pub item_misnames : List Declaration → Option TraitId → Bool
item_misnames ds None = false
item_misnames ds (Some t) = not (is_declared_trait (slice_get ds t.0))

-- A call names what was never given; or a crate was never added; or an associated item is of no trait.
abbrev pub declarations_misname : Context → Bool
declarations_misname c =
    c.contents.misnamed
    || (is_unknown c.crates c.local
    || (list_any (λ d. is_unknown c.crates d.crate) c.declarations
    || list_any (λ d. lacks_trait c.declarations d.kind) c.declarations))

-- A declaration holds a number that was never given; or a node names a definition that wasn't.
abbrev pub nodes_misname : Context → Bool
nodes_misname c = list_any (is_not_given c.trees) (all_that_is_held c) || list_any (λ t. names_unknown (length c.declarations) t.head) c.trees

abbrev pub contents_misname : Context → Bool
contents_misname c =
    list_any (impl_misnames c.crates c.declarations (length c.contents.impls)) c.contents.impls
    || list_any (item_misnames c.declarations) c.contents.lang_items

abbrev pub has_unknown_id : Context → Bool
has_unknown_id c = declarations_misname c || (contents_misname c || nodes_misname c)

-- a parameter that changes where it is unsized, and that it doesn't have
abbrev pub has_past_unsizing : List VarKind → Option AdtContents → Bool
has_past_unsizing ks None = false
has_past_unsizing ks (Some a) = list_any (λ i. nat_le (length ks) i) a.unsizing

abbrev pub kind_unsizes_past : Contents → List VarKind → DefinitionKind → Bool
kind_unsizes_past c ks (D.Adt shape flags n) = has_past_unsizing ks (slice_get c.adts n)
kind_unsizes_past c ks _ = false

abbrev pub unsizes_past : Contents → Declaration → Bool
unsizes_past c d = kind_unsizes_past c d.parameters d.kind

-- A definition has parameters that its flags don't allow, or what is declared names one that isn't there.
abbrev pub has_wrong_parameters : Context → Bool
has_wrong_parameters c =
    list_any (λ d. has_wrong_arity d.kind d.parameters) c.declarations
    || (list_any (unsizes_past c.contents) c.declarations
    || list_any (held_misplaces M.Past c.trees c.declarations c.contents.impls) (all_that_is_held c))

-- The arguments of the impl's header are those that its trait takes: a type, and then one of the kind of each parameter.
pub record ImplFits (w : World) (ts : List Tree) (i : Impl) : Type 0 where
  pub given : IsArgs ts i.trait_ref.args
  pub takes : joined (Some (TypeKind ∷ [])) (parameters w TraitSort i.trait_ref.def_id.0) ≡ Some (kinds_of (args_forest ts i.trait_ref.args))

abbrev pub ImplsFit : World → List Tree → List Impl → Type 0
ImplsFit w ts [] = Unit {0}
ImplsFit w ts (i ∷ is) = ImplFits w ts i × ImplsFit w ts is

-- It isn't so of the impl of that number.
pub record HeaderMisfits (w : World) (ts : List Tree) (is : List Impl) (number : ℕ) : Type 0 where
  pub of : Impl
  pub there : slice_get is number ≡ Some of
  pub misfits : ImplFits w ts of → ⊥

-- The arguments of all nodes fit, whether or not they are used, and so do those of all impls.
pub record AllArgumentsFit (c : Context) : Type 0 where
  pub nodes : IsWellFormed c
  pub impls : ImplsFit (world c) c.trees c.contents.impls

-- a type among the items of that trait
abbrev pub is_type_item : TraitId → DefinitionKind → Bool
is_type_item t (D.Assoc of A.Type sized n) = of.0 == t.0
is_type_item t _ = false

abbrev pub is_declared_item : TraitId → Option Declaration → Bool
is_declared_item t None = false
is_declared_item t (Some d) = is_type_item t d.kind

-- A value is of what is no type among the trait's items, or not the only one of its item among these.
abbrev pub is_wrong_value : List Declaration → TraitId → List AssocValue → AssocValue → Bool
is_wrong_value ds t vs v = not (is_declared_item t (slice_get ds v.assoc.0)) || nat_lt 1 (count_by (λ (w : AssocValue). w.assoc.0 == v.assoc.0) vs)

abbrev pub has_wrong_value : List Declaration → Impl → Bool
has_wrong_value ds i = list_any (is_wrong_value ds i.trait_ref.def_id i.values) i.values

-- A parameter is of another kind than it stands for; or a variable, a placeholder or a bound variable that nothing binds
-- stands in what is declared; or a super clause doesn't say of `Self` what one may say; or an impl has a wrong value.
abbrev pub has_wrong_kind : Context → Bool
has_wrong_kind c =
    list_any (held_misplaces M.Stray c.trees c.declarations c.contents.impls) (all_that_is_held c)
    || (list_any (held_escapes c.trees) (all_that_is_held c)
    || (list_any (λ d. has_wrong_super c.trees c.contents d.kind) c.declarations
    || list_any (has_wrong_value c.declarations) c.contents.impls))

abbrev pub is_struct : AdtShape → Bool
is_struct Shape.Struct = true
is_struct _ = false

abbrev pub is_nothing : {X : Type 0} → List X → Bool
is_nothing [] = true
is_nothing (x ∷ xs) = false

-- It changes where it is unsized, and isn't a struct with a field.
abbrev pub unsizes_without_tail : AdtShape → Option AdtContents → Bool
unsizes_without_tail shape None = false
unsizes_without_tail shape (Some a) = not (is_nothing a.unsizing) && (not (is_struct shape) || is_nothing a.fields)

abbrev pub lacks_tail : Contents → DefinitionKind → Bool
lacks_tail c (D.Adt shape flags n) = unsizes_without_tail shape (slice_get c.adts n)
lacks_tail c _ = false

abbrev pub all_items : List LangItem
all_items =
    L.Sized ∷ L.MetaSized ∷ L.Copy ∷ L.Clone ∷ L.TrivialClone ∷ L.Fn ∷ L.FnMut ∷ L.FnOnce ∷ L.FnPtrTrait ∷ L.Tuple ∷ L.PointeeTrait ∷ L.DiscriminantKind ∷ L.Destruct
    ∷ L.Drop ∷ L.BikeshedGuaranteedNoDrop ∷ L.Unsize ∷ []

-- a type, or nothing
abbrev pub has_item_parameters : LangItem → List VarKind → Bool
has_item_parameters item ks = if takes_a_type item then length ks == 1 && begins_with_type ks else is_empty ks

abbrev pub lacks_item_parameters : LangItem → Option Declaration → Bool
lacks_item_parameters item None = false
lacks_item_parameters item (Some d) = not (has_item_parameters item d.parameters)

abbrev pub trait_lacks_item_parameters : LangItem → List Declaration → Option TraitId → Bool
trait_lacks_item_parameters item ds None = false
trait_lacks_item_parameters item ds (Some t) = lacks_item_parameters item (slice_get ds t.0)

-- The trait that is the lang item has other parameters than the item has.
abbrev pub item_has_wrong_arity : List Declaration → List (Option TraitId) → LangItem → Bool
item_has_wrong_arity ds items item = trait_lacks_item_parameters item ds (slice_index_or items (item_number item) None)

-- When a fault is there. Contents that a later call replaced don't count.
abbrev pub HasFault : Context → DeclFault → Type 0
HasFault c F.UnknownId = IsTrue (has_unknown_id c)
HasFault c F.WrongArity = IsTrue (has_wrong_parameters c) ⊎ (AllArgumentsFit c → ⊥)
HasFault c F.WrongKind = IsTrue (has_wrong_kind c)
HasFault c F.SupertraitCycle = HasSupertraitCycle c
HasFault c F.NoTail = IsTrue (list_any (λ d. lacks_tail c.contents d.kind) c.declarations)
HasFault c F.LangArity = IsTrue (list_any (item_has_wrong_arity c.declarations c.contents.lang_items) all_items)
HasFault c F.BadLimit = IsTrue (has_bad_limit c.limits)
HasFault c F.Memory = ⊥

abbrev pub fault_number : DeclFault → ℕ
fault_number F.UnknownId = 1
fault_number F.WrongArity = 2
fault_number F.WrongKind = 3
fault_number F.SupertraitCycle = 4
fault_number F.NoTail = 5
fault_number F.LangArity = 6
fault_number F.Memory = 7
fault_number F.BadLimit = 8

-- It is there, and none of a lower number is.
pub record IsLowestFault (c : Context) (f : DeclFault) : Type 0 where
  pub there : HasFault c f
  pub lowest : (g : DeclFault) → fault_number g < fault_number f → HasFault c g → ⊥

abbrev pub IsFaultless : Context → Type 0
IsFaultless c = (f : DeclFault) → HasFault c f → ⊥

-- What is declared, and the trees of the numbers given so far.
use Rattle.std.specs.Prelude.{◌≡◌, ℕ, Bool, true, false, not, ◌&&◌, nat_lt, Option, Some, None, List, [], ◌∷◌, ◌++◌, map, slice_get}
use Rattle.ir_trees.specs.declared.ir.kinds.VarKind.{VarKind}
use Rattle.ir_trees.specs.declared.ir.kinds.VarKind.TheVariants as V
use Rattle.ir_trees.specs.declared.decl.definition.CrateId.{CrateId}
use Rattle.ir_trees.specs.declared.decl.definition.AssocKind.{AssocKind}
use Rattle.ir_trees.specs.declared.decl.definition.AssocKind.TheVariants as A
use Rattle.ir_trees.specs.declared.decl.definition.DefinitionKind.{DefinitionKind}
use Rattle.ir_trees.specs.declared.decl.definition.DefinitionKind.TheVariants as D
use Rattle.ir_trees.specs.Syntax.Trees.{Kind, TypeKind, ConstantKind, RegionKind, Tree}
use Rattle.ir_trees.specs.Syntax.Nodes.{Extends}
use Rattle.ir_trees.specs.Declarations.Worlds.{World, Definition, DefinitionSort, AdtSort, ForeignSort, TraitSort, AssociatedTypeSort, AssociatedConstantSort, AliasSort, OpaqueSort, FunctionSort, ClosureSort}
use Rattle.ir_trees.specs.Declarations.Declaration.{Declaration}
use Rattle.ir_trees.specs.Declarations.Contents.{Contents}
use Rattle.ir_trees.specs.declared.decl.limits.Limits.{Limits}

-- What contracts see of a builder, of declarations and of a context.
pub record Context : Type 0 where
  -- how many crates there are: they are numbered from 0
  pub crates : ℕ
  pub local : CrateId
  -- where walks end
  pub limits : Limits
  -- the declarations by the numbers of their definitions
  pub declarations : List Declaration
  -- what they hold, and the impls
  pub contents : Contents
  -- the trees by their numbers
  pub trees : List Tree
  -- how many of them came with finished declarations: the first, which are never taken back
  pub declared_nodes : ℕ
  -- the texts of faults that were put off, as bytes
  pub delayed_bugs : List (List ℕ)

abbrev pub parameter_kind : VarKind → Kind
parameter_kind V.Ty = TypeKind
parameter_kind V.Const = ConstantKind
parameter_kind V.Region = RegionKind

abbrev pub assoc_sort : AssocKind → DefinitionSort
assoc_sort A.Type = AssociatedTypeSort
assoc_sort A.Const = AssociatedConstantSort

abbrev pub sort_of : DefinitionKind → DefinitionSort
sort_of (D.Adt shape flags n) = AdtSort
sort_of (D.Trait flags n) = TraitSort
sort_of D.Foreign = ForeignSort
sort_of (D.Assoc of kind sized n) = assoc_sort kind
sort_of (D.Alias shape) = AliasSort
sort_of (D.Opaque hidden n) = OpaqueSort
sort_of (D.Function flags sig) = FunctionSort
sort_of (D.Closure constant) = ClosureSort

abbrev pub fundamental_of : DefinitionKind → Bool
fundamental_of (D.Adt shape flags n) = flags.fundamental
fundamental_of (D.Trait flags n) = flags.fundamental
fundamental_of _ = false

abbrev pub definition_of : Declaration → Definition
definition_of d = record {
  sort = sort_of d.kind;
  crate = d.crate.0;
  parameters = map parameter_kind d.parameters;
  is_fundamental = fundamental_of d.kind;
}

-- The world that the declarations make.
abbrev pub world_of : List Declaration → World
world_of ds = map definition_of ds

abbrev pub world : Context → World
world c = world_of c.declarations

-- the context with one more declaration
abbrev pub declared : Context → Declaration → Context
declared c d = record c { declarations = c.declarations ++ d ∷ [] }

abbrev pub crate_of : Option Declaration → CrateId
crate_of None = record { 0 = 4294967295 }
crate_of (Some d) = d.crate

abbrev pub parameters_of : Option Declaration → List VarKind
parameters_of None = []
parameters_of (Some d) = d.parameters

-- Faults may have been put off besides those that were.
pub record HasFaultsOf (old new : Context) : Type 0 where
  pub added : List (List ℕ)
  pub is : new.delayed_bugs ≡ old.delayed_bugs ++ added

-- The declarations stay, every number has its tree still, and every fault that was put off is listed still. Calls that put none off say
-- so beside it.
pub record Grows (old new : Context) : Type 0 where
  pub same : new ≡ record old { trees = new.trees; delayed_bugs = new.delayed_bugs }
  pub kept : Extends old.trees new.trees
  pub faults : HasFaultsOf old new

-- whether the first parameter is a type
abbrev pub begins_with_type : List VarKind → Bool
begins_with_type (V.Ty ∷ ks) = true
begins_with_type _ = false

abbrev pub is_empty : List VarKind → Bool
is_empty [] = true
is_empty (k ∷ ks) = false

abbrev pub is_unknown : ℕ → CrateId → Bool
is_unknown crates c = not (nat_lt c.0 crates)

-- The marker type has a type parameter first, and an auto trait has none besides `Self`.
abbrev pub has_wrong_arity : DefinitionKind → List VarKind → Bool
has_wrong_arity (D.Adt shape flags n) ks = flags.phantom_data && not (begins_with_type ks)
has_wrong_arity (D.Trait flags n) ks = flags.auto && not (is_empty ks)
has_wrong_arity _ ks = false

abbrev pub is_trait : DefinitionKind → Bool
is_trait (D.Trait flags n) = true
is_trait _ = false

abbrev pub is_declared_trait : Option Declaration → Bool
is_declared_trait None = false
is_declared_trait (Some d) = is_trait d.kind

-- whether it is an associated item of what is none of the declared traits
abbrev pub lacks_trait : List Declaration → DefinitionKind → Bool
lacks_trait ds (D.Assoc of kind sized n) = not (is_declared_trait (slice_get ds of.0))
lacks_trait ds _ = false

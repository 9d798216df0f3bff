-- Worlds: what the definitions of all crates are, and the references that are of one.
use Rattle.std.specs.Prelude.{◌≡◌, ℕ, Bool, Option, Some, None, List, [], ◌∷◌, ◌++◌, ◌==◌, slice_get, map, drop, if◌then◌else◌}
use Rattle.ir_trees.specs.declared.ir.heads.Head.{Head}
use Rattle.ir_trees.specs.declared.ir.heads.Head.TheVariants as H
use Rattle.ir_trees.specs.declared.ir.heads.Builtin.{Builtin}
use Rattle.ir_trees.specs.declared.ir.heads.Builtin.TheVariants as B
use Rattle.ir_trees.specs.declared.ir.heads.PatternShape.TheVariants as Pat
use Rattle.ir_trees.specs.declared.ir.heads.ConstHead.TheVariants as C
use Rattle.ir_trees.specs.declared.ir.heads.PartHead.{PartHead}
use Rattle.ir_trees.specs.declared.ir.heads.PartHead.TheVariants as P
use Rattle.ir_trees.specs.declared.ir.heads.PredHead.TheVariants as PH
use Rattle.ir_trees.specs.declared.ir.heads.ClauseHead.{ClauseHead}
use Rattle.ir_trees.specs.declared.ir.heads.ClauseHead.TheVariants as Cl
use Rattle.ir_trees.specs.declared.ir.kinds.AliasKind.{AliasKind}
use Rattle.ir_trees.specs.declared.ir.kinds.AliasKind.TheVariants as AK
use Rattle.ir_trees.specs.declared.decl.definition.DefinitionSort.{DefinitionSort as Sort}
use Rattle.ir_trees.specs.declared.decl.definition.DefinitionSort.TheVariants as S
use Rattle.ir_trees.specs.Syntax.Trees.{Kind, TypeKind, ConstantKind, RegionKind, PredicateKind, SignatureKind, BinderKind, VariableKind, Forest, none, tree, kind_of}

-- What a definition's number stands for.
abbrev pub DefinitionSort : Type 0
DefinitionSort = Sort

abbrev pub AdtSort : DefinitionSort
AdtSort = S.Adt

abbrev pub ForeignSort : DefinitionSort
ForeignSort = S.Foreign

abbrev pub TraitSort : DefinitionSort
TraitSort = S.Trait

abbrev pub AssociatedTypeSort : DefinitionSort
AssociatedTypeSort = S.AssociatedType

abbrev pub AssociatedConstantSort : DefinitionSort
AssociatedConstantSort = S.AssociatedConst

abbrev pub AliasSort : DefinitionSort
AliasSort = S.Alias

abbrev pub OpaqueSort : DefinitionSort
OpaqueSort = S.Opaque

abbrev pub FunctionSort : DefinitionSort
FunctionSort = S.Function

abbrev pub ClosureSort : DefinitionSort
ClosureSort = S.Closure

-- The parameters of a trait and of its items are those after `Self`.
pub record Definition : Type 0 where
  pub sort : DefinitionSort
  pub crate : ℕ
  pub parameters : List Kind
  pub is_fundamental : Bool

-- The definitions by their numbers. Crates that nobody has declared are in some world, too.
abbrev pub World : Type 0
World = List Definition

-- What is declared in `w` stands unchanged in `v`.
abbrev pub Extends : World → World → Type 0
Extends w v = (i : ℕ) (d : Definition) → slice_get w i ≡ Some d → slice_get v i ≡ Some d

-- A trait with a list of trees.
pub record Reference : Type 0 where
  pub trait : ℕ
  pub arguments : Forest

abbrev pub sort_number : DefinitionSort → ℕ
sort_number S.Adt = 0
sort_number S.Foreign = 1
sort_number S.Trait = 2
sort_number S.AssociatedType = 3
sort_number S.AssociatedConst = 4
sort_number S.Alias = 5
sort_number S.Opaque = 6
sort_number S.Function = 7
sort_number S.Closure = 8

abbrev pub parameters_of : DefinitionSort → Option Definition → Option (List Kind)
parameters_of s None = None
parameters_of s (Some d) = if sort_number d.sort == sort_number s then Some d.parameters else None

-- the parameters of the definition, if it is there and of the sort; for a trait and its items, those after `Self`
abbrev pub parameters : World → DefinitionSort → ℕ → Option (List Kind)
parameters w s i = parameters_of s (slice_get w i)

abbrev pub joined : Option (List Kind) → Option (List Kind) → Option (List Kind)
joined (Some a) (Some b) = Some (a ++ b)
joined _ _ = None

abbrev pub all_of : Kind → List Kind → List Kind
all_of k ks = map (λ (_ : Kind). k) ks

-- bounds, and then a region
abbrev pub bounds_of : List Kind → List Kind
bounds_of [] = RegionKind ∷ []
bounds_of (k ∷ []) = RegionKind ∷ []
bounds_of (k ∷ (l ∷ ks)) = PredicateKind ∷ bounds_of (l ∷ ks)

-- the kinds of the children of a type that no definition makes
abbrev pub builtin_kinds : Builtin → List Kind → List Kind
builtin_kinds B.Array ks = TypeKind ∷ ConstantKind ∷ []
builtin_kinds B.Slice ks = TypeKind ∷ []
builtin_kinds (B.Pat Pat.NotNull) ks = TypeKind ∷ []
builtin_kinds (B.Pat Pat.Range) ks = TypeKind ∷ ConstantKind ∷ ConstantKind ∷ []
builtin_kinds (B.RawPtr m) ks = TypeKind ∷ []
builtin_kinds (B.FnPtr s) ks = BinderKind ∷ TypeKind ∷ all_of TypeKind (drop 2 ks)
builtin_kinds B.UnsafeBinder ks = BinderKind ∷ TypeKind ∷ []
builtin_kinds B.Tuple ks = all_of TypeKind ks
builtin_kinds _ ks = []

abbrev pub alias_kinds : World → AliasKind → ℕ → Option (List Kind)
alias_kinds w AK.Projection i = joined (Some (TypeKind ∷ [])) (parameters w AssociatedTypeSort i)
alias_kinds w AK.Opaque i = parameters w OpaqueSort i
alias_kinds w _ i = parameters w AliasSort i

-- of a clause, after its binder
abbrev pub clause_kinds : World → ClauseHead → Option (List Kind)
clause_kinds w (Cl.Trait i p) = joined (Some (TypeKind ∷ [])) (parameters w TraitSort i.0)
clause_kinds w (Cl.Projection i) = joined (joined (Some (TypeKind ∷ [])) (parameters w AssociatedTypeSort i.0)) (Some (TypeKind ∷ []))
clause_kinds w Cl.TypeOutlives = Some (TypeKind ∷ RegionKind ∷ [])
clause_kinds w Cl.RegionOutlives = Some (RegionKind ∷ RegionKind ∷ [])
clause_kinds w Cl.AliasRelate = Some (TypeKind ∷ TypeKind ∷ [])
clause_kinds w Cl.ConstEquate = Some (ConstantKind ∷ ConstantKind ∷ [])

abbrev pub part_kinds : World → PartHead → List Kind → Option (List Kind)
part_kinds w (P.Pred (PH.Trait i)) ks = joined (Some (BinderKind ∷ [])) (parameters w TraitSort i.0)
part_kinds w (P.Pred (PH.Projection i)) ks = joined (Some (BinderKind ∷ [])) (joined (parameters w AssociatedTypeSort i.0) (Some (TypeKind ∷ [])))
part_kinds w (P.Pred (PH.AutoTrait i)) ks = joined (Some (BinderKind ∷ [])) (parameters w TraitSort i.0)
part_kinds w (P.Clause c) ks = joined (Some (BinderKind ∷ [])) (clause_kinds w c)
part_kinds w P.Sig ks = Some (BinderKind ∷ TypeKind ∷ TypeKind ∷ [])
part_kinds w P.Vars ks = Some (all_of VariableKind ks)
part_kinds w (P.Var k) ks = Some []

-- the kinds of the children that a node with the head takes in the world, where it has as many as the list says
abbrev pub child_kinds : World → Head → List Kind → Option (List Kind)
child_kinds w (H.Builtin b) ks = Some (builtin_kinds b ks)
child_kinds w (H.Ref m) ks = Some (RegionKind ∷ TypeKind ∷ [])
child_kinds w (H.Adt i) ks = parameters w AdtSort i.0
child_kinds w (H.Foreign i) ks = parameters w ForeignSort i.0
child_kinds w H.Dynamic ks = Some (bounds_of ks)
child_kinds w (H.FnDef i) ks = parameters w FunctionSort i.0
child_kinds w (H.Closure i k) ks = joined (parameters w ClosureSort i.0) (Some (SignatureKind ∷ TypeKind ∷ []))
child_kinds w (H.Alias k i) ks = alias_kinds w k i.0
child_kinds w (H.Const (C.Unevaluated i)) ks = joined (Some (TypeKind ∷ [])) (parameters w AssociatedConstantSort i.0)
child_kinds w (H.Part p) ks = part_kinds w p ks
child_kinds w (H.List n) ks = None
child_kinds w _ ks = Some []

abbrev pub kinds_of : Forest → List Kind
kinds_of none = []
kinds_of (tree h below rest) = kind_of h ∷ kinds_of rest

-- Each node has the children that its head takes.
abbrev pub Fits : World → Forest → Type 0
Fits w none = Unit {0}
Fits w (tree h below rest) = (child_kinds w h (kinds_of below) ≡ Some (kinds_of below)) × Fits w below × Fits w rest

-- The reference is one of the world.
pub record IsOf (w : World) (r : Reference) : Type 0 where
  pub takes : joined (Some (TypeKind ∷ [])) (parameters w TraitSort r.trait) ≡ Some (kinds_of r.arguments)
  pub fits : Fits w r.arguments

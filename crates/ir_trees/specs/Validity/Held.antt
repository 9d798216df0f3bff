-- The types, clauses, lists and binders that declarations hold, one after the other.
use Rattle.std.specs.Prelude.{ℕ, true, false, suc, List, [], ◌∷◌, ◌++◌, map, Option, Some, None, slice_get}
use Rattle.ir_trees.specs.declared.ir.kinds.Ty.{Ty}
use Rattle.ir_trees.specs.declared.ir.kinds.Clause.{Clause}
use Rattle.ir_trees.specs.declared.ir.kinds.FnSig.{FnSig}
use Rattle.ir_trees.specs.declared.ir.kinds.Binder.{Binder}
use Rattle.ir_trees.specs.declared.decl.contents.AssocValue.{AssocValue}
use Rattle.ir_trees.specs.declared.decl.definition.DefinitionKind.{DefinitionKind}
use Rattle.ir_trees.specs.declared.decl.definition.DefinitionKind.TheVariants as D
use Rattle.ir_trees.specs.declared.decl.held.Held.{Held}
use Rattle.ir_trees.specs.declared.decl.held.Owner.{Owner}
use Rattle.ir_trees.specs.declared.decl.held.Owner.TheVariants as O
use Rattle.ir_trees.specs.declared.decl.held.HeldSort.TheVariants as S
use Rattle.ir_trees.specs.Declarations.Declaration.{Declaration}
use Rattle.ir_trees.specs.Declarations.Contents.{AdtContents, TraitContents, Bounds, Impl, Contents}

abbrev pub held_type : Owner → Ty → Held
held_type o t = record { owner = o; sort = S.Ty; number = t.0; under_binder = false }

abbrev pub held_clause : Owner → Clause → Held
held_clause o c = record { owner = o; sort = S.Clause; number = c.0; under_binder = false }

abbrev pub held_types : Owner → List Ty → List Held
held_types o ts = map (held_type o) ts

abbrev pub held_clauses : Owner → List Clause → List Held
held_clauses o cs = map (held_clause o) cs

abbrev pub option_held : Owner → Option Ty → List Held
option_held o None = []
option_held o (Some t) = held_type o t ∷ []

-- the inputs and the output stand under the signature's binder
abbrev pub held_sig : Owner → Binder FnSig → List Held
held_sig o s =
    record { owner = o; sort = S.Vars; number = s.vars.0; under_binder = false }
    ∷ record { owner = o; sort = S.Args; number = s.value.inputs.0; under_binder = true }
    ∷ record { owner = o; sort = S.Ty; number = s.value.output.0; under_binder = true }
    ∷ []

abbrev pub adt_held : Owner → AdtContents → List Held
adt_held o a = held_types o a.fields ++ (option_held o a.sized ++ option_held o a.meta_sized)

abbrev pub trait_held : Owner → TraitContents → List Held
trait_held o t = held_clauses o t.supers ++ held_clauses o t.wheres

abbrev pub bounds_held : Owner → Bounds → List Held
bounds_held o b = held_clauses o b.self_bounds ++ held_clauses o b.non_self_bounds

abbrev pub if_there : {X : Type 0} → (X → List Held) → Option X → List Held
if_there f None = []
if_there f (Some x) = f x

-- the type that it hides, and its bounds
abbrev pub opaque_held : Owner → Ty → Option Bounds → List Held
opaque_held o hidden bounds = held_type o hidden ∷ if_there (bounds_held o) bounds

abbrev pub definition_held : Contents → ℕ → DefinitionKind → List Held
definition_held c i (D.Adt shape flags n) = if_there (adt_held (O.Definition i)) (slice_get c.adts n)
definition_held c i (D.Trait flags n) = if_there (trait_held (O.Definition i)) (slice_get c.traits n)
definition_held c i (D.Assoc of kind sized n) = if_there (bounds_held (O.Definition i)) (slice_get c.bounds n)
definition_held c i (D.Opaque hidden n) = opaque_held (O.Definition i) hidden (slice_get c.bounds n)
definition_held c i (D.Function flags sig) = held_sig (O.Definition i) sig
definition_held c i _ = []

-- what associated types are
abbrev pub held_value : Owner → AssocValue → Held
held_value o v = held_type o v.ty

abbrev pub held_values : Owner → List AssocValue → List Held
held_values o vs = map (held_value o) vs

-- its header's arguments, its clauses, and what it says that associated types are
abbrev pub impl_held : ℕ → Impl → List Held
impl_held i x =
    record { owner = O.Impl i; sort = S.Args; number = x.trait_ref.args.0; under_binder = false }
    ∷ (held_clauses (O.Impl i) x.wheres ++ (held_clauses (O.Impl i) x.super_outlives ++ held_values (O.Impl i) x.values))

-- of the definitions from that number on, and of the impls
abbrev pub definitions_held : Contents → ℕ → List Declaration → List Held
definitions_held c i [] = []
definitions_held c i (d ∷ ds) = definition_held c i d.kind ++ definitions_held c (suc i) ds

abbrev pub impls_held : ℕ → List Impl → List Held
impls_held i [] = []
impls_held i (x ∷ xs) = impl_held i x ++ impls_held (suc i) xs

abbrev pub all_held : List Declaration → Contents → List Held
all_held ds c = definitions_held c 0 ds ++ impls_held 0 c.impls

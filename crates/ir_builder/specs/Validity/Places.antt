-- Whose content has a fault of declarations.
use Rattle.std.specs.Prelude.{◌≡◌, ◌⊎◌, ℕ, ◌-◌, Bool, true, false, ◌||◌, ◌==◌, length, List, Option, Some, None, MatchOption, slice_get, if◌then◌else◌}
use Rattle.std.specs.List.{position}
use Rattle.ir_trees.specs.declared.decl.fault.DeclFault.{DeclFault}
use Rattle.ir_trees.specs.declared.decl.fault.DeclFault.TheVariants as F
use Rattle.ir_builder.specs.declared.decl.fault_places.FaultPlace.{FaultPlace}
use Rattle.ir_builder.specs.declared.decl.fault_places.DeclError.{DeclError}
use Rattle.ir_trees.specs.declared.decl.held.Held.{Held}
use Rattle.ir_trees.specs.declared.decl.held.Owner.{Owner}
use Rattle.ir_trees.specs.declared.decl.held.Owner.TheVariants as O
use Rattle.ir_trees.specs.declared.decl.misplaced.Misplaced.TheVariants as M
use Rattle.ir_trees.specs.Declarations.Declaration.{Declaration}
use Rattle.ir_trees.specs.Declarations.Contents.{Impl}
use Rattle.ir_trees.specs.Declarations.Context.{Context, world, is_unknown, lacks_trait, has_wrong_arity}
use Rattle.ir_trees.specs.Hierarchy.Supers.{has_wrong_super, is_no_super, supers_of}
use Rattle.ir_trees.specs.Validity.Faults.{all_that_is_held, impl_misnames, has_wrong_value, unsizes_past, lacks_tail, HeaderMisfits, ImplsFit, IsLowestFault}
use Rattle.ir_trees.specs.Validity.Misplaced.{is_not_given, held_misplaces, held_escapes}

-- A definition has the fault by what it is said to be, or by a super clause.
abbrev pub definition_has : Context → DeclFault → Declaration → Bool
definition_has c F.UnknownId d = is_unknown c.crates d.crate || lacks_trait c.declarations d.kind
definition_has c F.WrongArity d = has_wrong_arity d.kind d.parameters || unsizes_past c.contents d
definition_has c F.WrongKind d = has_wrong_super c.trees c.contents d.kind
definition_has c F.NoTail d = lacks_tail c.contents d.kind
definition_has c _ d = false

abbrev pub names_node_unknown : DeclFault → Bool
names_node_unknown F.UnknownId = true
names_node_unknown _ = false

-- the fault is that of what is held, where that is a node of its sort
abbrev pub node_has : Context → DeclFault → Held → Bool
node_has c F.WrongArity h = held_misplaces M.Past c.trees c.declarations c.contents.impls h
node_has c F.WrongKind h = held_misplaces M.Stray c.trees c.declarations c.contents.impls h || held_escapes c.trees h
node_has c _ h = false

-- Something that a definition or an impl holds has the fault.
abbrev pub part_has : Context → DeclFault → Held → Bool
part_has c f h = if is_not_given c.trees h then names_node_unknown f else node_has c f h

-- An impl has the fault by what it is said to be, or by what it says that associated types are.
abbrev pub impl_has : Context → DeclFault → Impl → Bool
impl_has c F.UnknownId i = impl_misnames c.crates c.declarations (length c.contents.impls) i
impl_has c F.WrongKind i = has_wrong_value c.declarations i
impl_has c _ i = false

abbrev pub is_same_owner : Owner → Owner → Bool
is_same_owner (O.Definition i) (O.Definition j) = i == j
is_same_owner (O.Impl i) (O.Impl j) = i == j
is_same_owner _ _ = false

-- the definition or the impl itself
abbrev pub own_place : Owner → FaultPlace
own_place o = record { owner = o; part = None }

abbrev pub part_place : Owner → ℕ → Option ℕ → Option FaultPlace
part_place o k None = None
part_place o k (Some first) = Some (record { owner = o; part = Some (k - first) })

-- what is held there, of all that is: its number is counted from the first thing on that its owner holds
abbrev pub place_of_part : List Held → ℕ → Option Held → Option FaultPlace
place_of_part hs k None = None
place_of_part hs k (Some h) = part_place h.owner k (position (λ (x : Held). is_same_owner x.owner h.owner) hs)

-- the super clause that is at fault, whose number is its own among all that the trait holds
abbrev pub definition_part : Context → DeclFault → Option Declaration → Option ℕ
definition_part c F.WrongKind (Some d) = position (is_no_super c.trees) (supers_of c.contents d.kind)
definition_part c _ _ = None

abbrev pub definition_place : Context → DeclFault → ℕ → FaultPlace
definition_place c f i = record { owner = O.Definition i; part = definition_part c f (slice_get c.declarations i) }

-- the first of the definitions; or else of what is held; or else of the impls
abbrev pub first_place : Context → DeclFault → Option ℕ → Option ℕ → Option ℕ → Option FaultPlace
first_place c f (Some i) part of = Some (definition_place c f i)
first_place c f None (Some k) of = place_of_part (all_that_is_held c) k (slice_get (all_that_is_held c) k)
first_place c f None None (Some i) = Some (own_place (O.Impl i))
first_place c f None None None = None

-- Whose content has the fault: the first definition that has it by what it is said to be or by a super clause, else the first thing that has it of
-- all that is held, else the first impl that has it by what it is said to be.
abbrev pub fault_place : Context → DeclFault → Option FaultPlace
fault_place c f =
    first_place c f (position (definition_has c f) c.declarations) (position (part_has c f) (all_that_is_held c)) (position (impl_has c f) c.contents.impls)

-- It is an impl itself, whose header's arguments aren't those that its trait takes.
pub record IsUnfit (c : Context) (place : FaultPlace) : Type 0 where
  pub number : ℕ
  pub is : place ≡ own_place (O.Impl number)
  pub misfits : HeaderMisfits (world c) c.trees c.contents.impls number

-- Where nothing has it so, it may be an impl's that its header's arguments don't fit; else it is of no one definition or impl.
abbrev pub IsOtherPlace : Context → DeclFault → Option FaultPlace → Type 0
IsOtherPlace c F.WrongArity place = MatchOption place (ImplsFit (world c) c.trees c.contents.impls) (IsUnfit c)
IsOtherPlace c _ place = place ≡ None

abbrev pub IsPlaceOf : Context → DeclFault → Option FaultPlace → Type 0
IsPlaceOf c f place = MatchOption (fault_place c f) (IsOtherPlace c f place) (λ p. place ≡ Some p)

-- the error where a growth was refused
abbrev pub memory_error : DeclError
memory_error = record { fault = F.Memory; place = None }

-- The lowest fault, and whose content has it; or a growth was refused.
abbrev pub IsDeclError : Context → DeclError → Type 0
IsDeclError c e = (e ≡ memory_error) ⊎ (IsLowestFault c e.fault × IsPlaceOf c e.fault e.place)

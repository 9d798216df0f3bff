-- When an overlap of two impls is no error by what they declare.
use Rattle.std.specs.Prelude.{Bool, true, false, not, ◌&&◌, ◌||◌, ◌==◌, ℕ, Option, Some, None, List, if◌then◌else◌}
use Rattle.std.specs.List.{list_any}
use Rattle.ir_trees.specs.declared.decl.contents.ImplId.{ImplId}
use Rattle.ir_trees.specs.declared.decl.contents.ImplPolarity.{ImplPolarity}
use Rattle.ir_trees.specs.declared.decl.contents.ImplPolarity.TheVariants as polarity
use Rattle.ir_trees.specs.Declarations.Context.{Context}
use Rattle.ir_trees.specs.Declarations.Contents.{Impl}
use Rattle.ir_trees.specs.Declarations.Declaring.{impl_at}
use Rattle.ir_trees.specs.Declarations.Lookups.{maybe}
use Rattle.candidate_assembly.specs.Rules.BuiltinRules.{flag_of_trait}
use Rattle.overlaps.specs.declared.allowance.Allowance.{Allowance}
use Rattle.overlaps.specs.declared.allowance.Allowance.TheVariants as reason
use Rattle.overlaps.specs.Ordered.{in_order}

abbrev pub is_reservation : ImplPolarity → Bool
is_reservation polarity.Reservation = true
is_reservation _ = false

-- Both impls say that their trait holds, or both that it doesn't.
abbrev pub are_of_one_polarity : ImplPolarity → ImplPolarity → Bool
are_of_one_polarity polarity.Positive polarity.Positive = true
are_of_one_polarity polarity.Negative polarity.Negative = true
are_of_one_polarity _ _ = false

-- impls of the trait may overlap
abbrev pub is_marker_trait : Context → ℕ → Bool
is_marker_trait c n = flag_of_trait (λ f. f.marker) c n

-- an impl of that number is among these
abbrev pub lists : List ImplId → ImplId → Bool
lists ns n = list_any (λ (i : ImplId). i.0 == n.0) ns

-- Of two impls of one trait, with their numbers: one of them is a reservation; or else the trait is a marker, and both say the same of it; or else
-- one is declared to specialise the other.
abbrev pub allowance_between : Context → ImplId → ImplId → Impl → Impl → Option Allowance
allowance_between c a b i j =
    if not (i.trait_ref.def_id.0 == j.trait_ref.def_id.0) then None
    else if is_reservation i.polarity || is_reservation j.polarity then Some reason.Reservation
    else if is_marker_trait c i.trait_ref.def_id.0 && are_of_one_polarity i.polarity j.polarity then Some reason.Marker
    else if lists i.specializes b then Some (reason.Specializes a)
    else if lists j.specializes a then Some (reason.Specializes b)
    else None

-- the same of the impls of these numbers; nothing where one of them isn't declared
abbrev pub allowance_of_ordered : Context → ImplId → ImplId → Option Allowance
allowance_of_ordered c a b = maybe None (λ i. maybe None (allowance_between c a b i) (impl_at c b)) (impl_at c a)

-- the same of two, the one of the lower number first
abbrev pub allowance_of : Context → ImplId → ImplId → Option Allowance
allowance_of c a b = let p = in_order a b in allowance_of_ordered c p.0 p.1

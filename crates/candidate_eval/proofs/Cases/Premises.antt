-- Why the premises of the laws stand: mostly by headers that overlap without one of them.
use Rattle.std.proofs.Common.{◌≡◌, ℕ, true, false, [], ◌∷◌, ◌++◌, refl, if◌then◌else◌}
use Rattle.ir_trees.specs.declared.ir.heads.Head.TheVariants as H
use Rattle.ir_trees.specs.declared.ir.heads.Builtin.TheVariants as B
use Rattle.ir_trees.specs.declared.ir.heads.VariableSort.TheVariants as V
use Rattle.ir_trees.specs.declared.ir.kinds.AliasKind.TheVariants as AK
use Rattle.ir_trees.specs.Syntax.Trees.{TypeKind, none, Forest, Tree}
use Rattle.ir_trees.specs.Declarations.Worlds.{World, Reference, AdtSort, TraitSort, AssociatedTypeSort}
use Rattle.ir_trees.specs.Syntax.Binders.{escapes}
use Rattle.ir_trees.specs.Unification.Substitutions.{Overlap, Universes, Binding}
use Rattle.candidate_eval.specs.Knowability.Orphan.{MayWrite, IsCovered, View, Sees, names, plain, view, plain_check, orphan_answer, is_general, Local, Remote, Proper, Passes, NonLocalInput, local_or_fundamental, plain_knowability, Knowable, Downstream}
use Rattle.candidate_eval.proofs.Cases.Examples.{def, one, ◌&◌, u8, P, Q, La, Lb, New, Pair, Vec, var, it, LocalType, ref}

abbrev goes : ℕ → Forest → Binding
goes n a = record { variable = record { sort = V.General; number = n }; value = it a }

-- Names: each of the crates 1 and 2 may write its header, but the second header names crate 1.
abbrev first : Reference
first = record { trait = 3; arguments = Pair La (var 0) }

abbrev other : Reference
other = record { trait = 3; arguments = Pair La Lb }

first_written : MayWrite Q 1 first
first_written = record { is_plain = record { no_alias = refl; no_error = refl }; limit = 2; passes = refl }

other_written : MayWrite Q 2 other
other_written = record { is_plain = record { no_alias = refl; no_error = refl }; limit = 2; passes = refl }

named : (names Q other 1 ≡ true) × (names Q first 2 ≡ false)
named = (refl, refl)

they_overlap : (u v : Universes) → Overlap u v first other
they_overlap u v = record {
  same_trait = refl;
  left = goes 0 Lb ∷ [];
  right = [];
  left_allowed = (record { fits = refl; is_closed = refl; in_universe = refl }, tt);
  right_allowed = tt;
  common = refl;
}

-- The second header is knowable for crate 1, and crate 2, which it names, may write it.
known_and_written : (plain_knowability Q 1 256 other ≡ Knowable) × (names Q other 2 ≡ true) × MayWrite Q 2 other
known_and_written = (refl, refl, other_written)

-- Errors: they count as local for every crate, and name none.
abbrev error : Reference
error = record { trait = 3; arguments = one H.Error none }

error_passes : (plain_check Q 1 (Local Proper) 256 error.arguments ≡ Passes) × (plain_check Q 2 (Local Proper) 256 error.arguments ≡ Passes)
error_passes = (refl, refl)

error_unnamed : (names Q error 1 ≡ false) × (names Q error 2 ≡ false)
error_unnamed = (refl, refl)

errors_overlap : (u v : Universes) → Overlap u v error error
errors_overlap u v = record { same_trait = refl; left = []; right = []; left_allowed = tt; right_allowed = tt; common = refl }

-- Aliases: what an alias stands for isn't seen. If `Out u8` is `Lb`, crate 2 may write a header that overlaps.
abbrev WithOut : World
WithOut = Q ++ def AssociatedTypeSort 3 [] false ∷ []

abbrev Out : Forest → Forest
Out a = one (H.Alias AK.Projection (record { 0 = 5 })) a

abbrev alias_first : Reference
alias_first = record { trait = 3; arguments = Pair (Out u8) La }

abbrev alias_known : Reference
alias_known = record { trait = 3; arguments = Pair Lb La }

abbrev second_variable : Reference
second_variable = record { trait = 3; arguments = Pair Lb (var 0) }

alias_passes : (plain_check WithOut 1 (Local Proper) 256 alias_first.arguments ≡ Passes) × (plain_knowability WithOut 1 256 alias_first ≡ Knowable)
alias_passes = (refl, refl)

alias_unnamed : (names WithOut alias_first 2 ≡ false) × (names WithOut second_variable 1 ≡ false)
alias_unnamed = (refl, refl)

second_written : MayWrite WithOut 2 second_variable
second_written = record { is_plain = record { no_alias = refl; no_error = refl }; limit = 2; passes = refl }

alias_overlap : (u v : Universes) → Overlap u v alias_known second_variable
alias_overlap u v = record {
  same_trait = refl;
  left = [];
  right = goes 0 La ∷ [];
  left_allowed = tt;
  right_allowed = (record { fits = refl; is_closed = refl; in_universe = refl }, tt);
  common = refl;
}

-- Values: a check sees `La` for a variable that it stands for, but the reference has the variable.
abbrev with_La : Unit {0} → Tree → Tree
with_La s t = if is_general t.head then it La else t

valued_passes : (orphan_answer {E = Unit {0}} Q 1 (Local Proper) (view with_La plain) 256 tt (var 0)).answer ≡ Passes
valued_passes = refl

valued_overlap : (u v : Universes) → Overlap u v (record { trait = 3; arguments = var 0 }) (record { trait = 3; arguments = Lb })
valued_overlap u v = record {
  same_trait = refl;
  left = goes 0 Lb ∷ [];
  right = [];
  left_allowed = (record { fits = refl; is_closed = refl; in_universe = refl }, tt);
  right_allowed = tt;
  common = refl;
}

abbrev of_Lb : Reference
of_Lb = record { trait = 3; arguments = Lb }

Lb_written : MayWrite Q 2 of_Lb × (names Q of_Lb 1 ≡ false)
Lb_written = (record { is_plain = record { no_alias = refl; no_error = refl }; limit = 2; passes = refl }, refl)

-- Normalisers: one that answers `La` for a variable makes its check pass, and `Lb` overlaps the variable as above.
abbrev as_La : View (Unit {0}) (Unit {0})
as_La s t = record { seen = Sees (with_La s t); after = s }

normalised_passes : (orphan_answer Q 1 (Local Proper) (view (λ s t. t) as_La) 256 tt (var 0)).answer ≡ Passes
normalised_passes = refl

-- Modes: for an unknown crate a variable passes, and `Lb` overlaps it as above.
remote_passes : plain_check Q 1 Remote 256 (var 0) ≡ Passes
remote_passes = refl

-- Declarations: a number that isn't declared may become that of a fundamental type.
abbrev WithFund : World
WithFund = Q ++ def AdtSort 3 (TypeKind ∷ []) true ∷ []

abbrev Fund : Forest → Forest
Fund a = one (H.Adt (record { 0 = 5 })) a

abbrev undeclared : Reference
undeclared = record { trait = 3; arguments = Pair (Fund (var 0)) La }

abbrev of_fund : Reference
of_fund = record { trait = 3; arguments = Pair (Fund Lb) (var 0) }

undeclared_passes : (plain_check Q 1 (Local Proper) 256 undeclared.arguments ≡ Passes) × (names WithFund undeclared 2 ≡ false)
undeclared_passes = (refl, refl)

of_fund_written : MayWrite WithFund 2 of_fund × (names WithFund of_fund 1 ≡ false)
of_fund_written = (record { is_plain = record { no_alias = refl; no_error = refl }; limit = 3; passes = refl }, refl)

undeclared_overlap : (u v : Universes) → Overlap u v undeclared of_fund
undeclared_overlap u v = record {
  same_trait = refl;
  left = goes 0 Lb ∷ [];
  right = goes 0 La ∷ [];
  left_allowed = (record { fits = refl; is_closed = refl; in_universe = refl }, tt);
  right_allowed = (record { fits = refl; is_closed = refl; in_universe = refl }, tt);
  common = refl;
}

-- A downstream reference, and the header of crate 4 that overlaps it.
downstream_first : plain_knowability Q 1 256 first ≡ Downstream
downstream_first = refl

abbrev newcomer : Reference
newcomer = record { trait = 3; arguments = Pair La New }

newcomer_written : MayWrite Q 4 newcomer × (names Q first 4 ≡ false)
newcomer_written = (record { is_plain = record { no_alias = refl; no_error = refl }; limit = 2; passes = refl }, refl)

newcomer_overlap : (u v : Universes) → Overlap u v first newcomer
newcomer_overlap u v = record {
  same_trait = refl;
  left = goes 0 New ∷ [];
  right = [];
  left_allowed = (record { fits = refl; is_closed = refl; in_universe = refl }, tt);
  right_allowed = tt;
  common = refl;
}

-- Other variables: an integer variable makes a reference downstream, but nobody may write a header for a builtin type.
abbrev integer : Reference
integer = record { trait = 3; arguments = one (H.Infer (record { sort = V.Integer; number = 0 })) none }

integer_is_downstream : plain_knowability Q 1 256 integer ≡ Downstream
integer_is_downstream = refl

nobody_writes_u8 : (c : ℕ) → plain_check Q c (Local Proper) 256 u8 ≡ NonLocalInput (record { type = it u8; is_first_input = true } ∷ [])
nobody_writes_u8 c = refl

-- Fundamental traits: a reference is knowable by its trait alone, and a crate that it names may write the header.
abbrev WithTrait : World
WithTrait = P ++ def TraitSort 1 [] true ∷ []

abbrev by_trait : Reference
by_trait = record { trait = 11; arguments = Vec u8 }

known_by_trait : (plain_knowability WithTrait 0 256 by_trait ≡ Knowable) × (local_or_fundamental WithTrait 0 by_trait.trait ≡ true)
known_by_trait = (refl, refl)

covered_by_trait : IsCovered WithTrait 256 by_trait × (names WithTrait by_trait 0 ≡ false)
covered_by_trait = (record { is_plain = record { no_alias = refl; no_error = refl }; covered = refl }, refl)

by_trait_overlap : (u v : Universes) → Overlap u v by_trait by_trait
by_trait_overlap u v = record { same_trait = refl; left = []; right = []; left_allowed = tt; right_allowed = tt; common = refl }

-- Names again: a known reference is a covered header itself, which names the local crate.
abbrev local_known : Reference
local_known = record { trait = 6; arguments = LocalType }

local_is_covered : (plain_knowability P 0 256 local_known ≡ Knowable) × IsCovered P 256 local_known × (names P local_known 0 ≡ true)
local_is_covered = (refl, record { is_plain = record { no_alias = refl; no_error = refl }; covered = refl }, refl)

local_overlap : (u v : Universes) → Overlap u v local_known local_known
local_overlap u v = record { same_trait = refl; left = []; right = []; left_allowed = tt; right_allowed = tt; common = refl }

-- Limits: a covered header is to be looked at as deep as the check: at limit 1 nothing of `& $0` is seen.
abbrev deep : Reference
deep = record { trait = 6; arguments = ref LocalType }

abbrev seen_late : Reference
seen_late = record { trait = 6; arguments = ref (var 0) }

knowable_deep : plain_knowability P 0 2 deep ≡ Knowable
knowable_deep = refl

covered_at_one : IsCovered P 1 seen_late
covered_at_one = record { is_plain = record { no_alias = refl; no_error = refl }; covered = refl }

late_sides : (names P seen_late 0 ≡ false) × (local_or_fundamental P 0 deep.trait ≡ false)
late_sides = (refl, refl)

late_overlap : (u v : Universes) → Overlap u v deep seen_late
late_overlap u v = record {
  same_trait = refl;
  left = [];
  right = goes 0 LocalType ∷ [];
  left_allowed = tt;
  right_allowed = (record { fits = refl; is_closed = refl; in_universe = refl }, tt);
  common = refl;
}

-- Bound variables: one that no binder takes is no value, at the top either; one under its own binder may be
escaping : escapes 0 (one (H.Bound (record { depth = 0; index = 0 })) none) ≡ true
escaping = refl

bound_in : escapes 0 (one (H.Builtin (B.FnPtr (record { safe = true; rust_abi = true; variadic = false }))) (one (H.Bound (record { depth = 0; index = 0 })) none & u8)) ≡ false
bound_in = refl

bound_out : escapes 0 (one (H.Builtin (B.FnPtr (record { safe = true; rust_abi = true; variadic = false }))) (one (H.Bound (record { depth = 1; index = 0 })) none & u8)) ≡ true
bound_out = refl

-- When no reference is an instance of two impls.
use Rattle.std.specs.Prelude.{◌≡◌, ℕ, false, Some, List, []}
use Rattle.ir_trees.specs.declared.decl.contents.ImplId.{ImplId}
use Rattle.ir_trees.specs.Declarations.Context.{Context}
use Rattle.ir_trees.specs.Declarations.Contents.{Impl}
use Rattle.ir_trees.specs.Declarations.Declaring.{impl_at}
use Rattle.ir_trees.specs.Declarations.Worlds.{kinds_of}
use Rattle.ir_trees.specs.Instantiation.Folding.{fold, substituted}
use Rattle.ir_trees.specs.Syntax.Binders.{escapes}
use Rattle.ir_trees.specs.Syntax.Trees.{Forest, Kind, erase, holds}
use Rattle.ir_trees.specs.Unification.Substitutions.{is_placeholder_above}
use Rattle.candidate_eval.specs.Interface.Evaluators.{with_rigid}
use Rattle.candidate_eval.specs.Judges.States.{State, with_fresh_variables, with_pending}
use Rattle.candidate_assembly.specs.Answers.KnownImpls.{header_of, kinds_of_impl}
use Rattle.rounds_judge.specs.Aliases.Listed.{Listing, listed}
use Rattle.overlaps.specs.Readings.{IsReading, Reading, read}

-- what is known, with nothing pending
abbrev pub aside : State → State
aside S = with_pending S []

-- the state in which fresh variables stand for the impl's parameters
abbrev pub opened : State → Impl → State
opened S i = with_fresh_variables S (kinds_of_impl i)

-- the state in which placeholders of a fresh universe do
abbrev pub entered : State → Impl → State
entered S i = with_rigid S (kinds_of_impl i)

-- Arguments for parameters of these kinds: each is of its kind and has no bound variable of an outer binder; and, with their regions erased,
-- they have no placeholder of a universe above that one.
pub record AreArguments (u : ℕ) (ks : List Kind) (ts : Forest) : Type 0 where
  pub kinds : kinds_of ts ≡ ks
  pub are_closed : escapes 0 ts ≡ false
  pub in_universe : holds (is_placeholder_above u) (erase ts) ≡ false

-- the trees with listed types in the place of their aliases
abbrev pub with_listed : Listing → Forest → Forest
with_listed l ts = fold (λ d u. listed l u) 0 ts

-- the header of the impl, with listed types in the place of its aliases, and with these in the place of its parameters
abbrev pub header_with : Context → Listing → Impl → Forest → Forest
header_with c l i ts = substituted ts 0 (with_listed l (header_of c i))

-- The headers of two impls have a common instance: they are of one trait, and there are arguments for the parameters of each, and types and
-- constants that the aliases which are left may be, with which the headers are equal, with their regions erased.
pub record HaveCommonInstance (c : Context) (l : Listing) (u : ℕ) (i j : Impl) : Type 0 where
  pub same_trait : i.trait_ref.def_id ≡ j.trait_ref.def_id
  pub first : Forest
  pub second : Forest
  pub first_are : AreArguments u (kinds_of_impl i) first
  pub second_are : AreArguments u (kinds_of_impl j) second
  pub reading : Reading
  pub is_reading : IsReading u reading
  pub equal : erase (read reading (header_with c l i first)) ≡ erase (read reading (header_with c l j second))

-- Their headers have no common instance by arguments that have no placeholder newer than the state's universes, whatever their aliases are,
-- but for those that are listed.
abbrev pub AreApart : Context → Listing → State → Impl → Impl → Type 0
AreApart c l S i j = HaveCommonInstance c l S.newest_universe i j → ⊥

-- something holds of two impls, if they are declared
abbrev pub IfDeclared : Context → ImplId → ImplId → (Impl → Impl → Type 0) → Type 0
IfDeclared c a b P = (i j : Impl) → impl_at c a ≡ Some i → impl_at c b ≡ Some j → P i j

-- Both are declared, and it holds of them.
pub record OfDeclared (c : Context) (a b : ImplId) (P : Impl → Impl → Type 0) : Type 0 where
  pub i : Impl
  pub j : Impl
  pub first_is : impl_at c a ≡ Some i
  pub second_is : impl_at c b ≡ Some j
  pub holds : P i j

-- They are of one trait.
abbrev pub AreOfOneTrait : Context → ImplId → ImplId → Type 0
AreOfOneTrait c a b = IfDeclared c a b (λ i j. i.trait_ref.def_id ≡ j.trait_ref.def_id)

-- They are of different traits.
abbrev pub AreOfOtherTraits : Context → ImplId → ImplId → Type 0
AreOfOtherTraits c a b = IfDeclared c a b (λ i j. i.trait_ref.def_id ≡ j.trait_ref.def_id → ⊥)

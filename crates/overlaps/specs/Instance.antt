-- What is an instance of the headers of two impls.
use Rattle.std.specs.Prelude.{◌≡◌, Bool, ◌||◌, ◌&&◌, not, true, false, Option, Some, List, []}
use Rattle.ir_trees.specs.declared.ir.kinds.TraitId.{TraitId}
use Rattle.ir_trees.specs.declared.ir.kinds.TraitRef.{TraitRef}
use Rattle.ir_trees.specs.Declarations.Context.{Context}
use Rattle.ir_trees.specs.Declarations.Contents.{Impl}
use Rattle.ir_trees.specs.Syntax.Trees.{Forest, none, Tree, erase, holds, is_alias}
use Rattle.ir_trees.specs.Syntax.Words.{IsArgs, args_forest}
use Rattle.candidate_eval.specs.Interface.Evaluators.{accepted}
use Rattle.candidate_eval.specs.Judges.States.{Judge, State, resolved}
use Rattle.candidate_assembly.specs.Answers.KnownImpls.{header_at}
use Rattle.candidate_rounds.specs.Evaluators.Interface.{fixed, judge_of}
use Rattle.candidate_rounds.specs.Evaluators.Known.{Evaluator, listing, state, sure_of}
use Rattle.candidate_rounds.specs.Evaluators.Leaking.{Leaks}
use Rattle.candidate_rounds.specs.Table.Goals.{Via}
use Rattle.rounds_judge.specs.Equations.Opening.{are_open}
use Rattle.rounds_judge.specs.Obligations.Responding.{renumbered, with_numbers}
use Rattle.rounds_judge.specs.Table.GoalTable.{GoalTable}
use Rattle.overlaps.specs.Answered.{AllHold, BothHold}
use Rattle.overlaps.specs.Apart.{aside, opened}
use Rattle.overlaps.specs.Refused.{headers_equated, locals_of}
use Rattle.overlaps.specs.declared.instance.CommonInstance.{CommonInstance}
use Rattle.overlaps.specs.declared.opening.Pair.{Pair}
use Rattle.overlaps.specs.declared.overlap.Overlap.{Overlap}
use Rattle.overlaps.specs.declared.overlap.Overlap.TheVariants as O

-- the trees with all values put in, and their variables numbered from 0 on then, in the order in which they first occur
abbrev pub canonical_at : State → Forest → Forest
canonical_at S f = let g = resolved S f in renumbered (with_numbers [] g) g

-- The reference is of that trait and has these arguments, with all values put in.
pub record IsReferenceAt (S : State) (trait : TraitId) (arguments : Forest) (ts : List Tree) (r : TraitRef) : Type 0 where
  pub of_trait : r.def_id ≡ trait
  pub sort : IsArgs ts r.args
  pub is : args_forest ts r.args ≡ canonical_at S arguments

-- The state at which two headers count as equal, told whether aliases are open, and what the headers' equation leaves: that. Or aliases aren't
-- open, and one stands in one of the headers, so that the equation would decide nothing; then it is the state before.
pub data CountAsEqual (opens : Bool) (equation : Option State) (before : State) (f g : Forest) (after : State) : Type 0 where
  made_equal : equation ≡ Some after → CountAsEqual opens equation before f g after
  left_open : opens ≡ false → holds is_alias f || holds is_alias g ≡ true → after ≡ before → CountAsEqual opens equation before f g after

-- No alias stands in either.
pub record HaveNoAlias (f g : Forest) : Type 0 where
  pub first : holds is_alias f ≡ false
  pub second : holds is_alias g ≡ false

-- With all values of the state put in, they are one, with their regions erased; where an alias stands in one, nothing is said.
abbrev pub AreOneAt : State → Forest → Forest → Type 0
AreOneAt S f g = HaveNoAlias f g → erase (resolved S f) ≡ erase (resolved S g)

-- Of two open impls: where the headers are equal, at the state, it is the first header there; and where it is certain, each where clause of
-- both holds by the table that is left, and no alias stands in the headers.
pub record IsInstanceWhereEqual (old new : Evaluator) (S : State) (p : Pair) (x : CommonInstance) : Type 0 where
  pub is : IsReferenceAt S p.first.def_id (args_forest old.context.trees p.first.header) new.context.trees x.trait_ref
  pub hold : x.is_certain ≡ true → BothHold old.context.trees (sure_of new) S p
  pub no_alias : x.is_certain ≡ true → HaveNoAlias (args_forest old.context.trees p.first.header) (args_forest old.context.trees p.second.header)

-- An answer, told whether the equation of two headers leaks a region: an instance says so, and isn't certain then.

abbrev pub unless_leaking : Bool → Overlap → Overlap
unless_leaking leaks (O.May x) = O.May (record { trait_ref = x.trait_ref; is_certain = x.is_certain && not leaks; leaks = leaks })
unless_leaking leaks o = o

abbrev pub TellsLeak : Bool → Overlap → Type 0
TellsLeak leaks (O.May x) = (x.is_certain ≡ true → leaks ≡ false) × (x.leaks ≡ leaks)
TellsLeak leaks _ = Unit {0}

-- The same where the headers are made equal first, with nothing pending then. It says whether a region leaks that a binder of them binds, unless
-- an alias stands in one; and where it is certain, none does.
pub record IsInstanceOfPair (old new : Evaluator) (p : Pair) (x : CommonInstance) : Type 0 where
  pub after : State
  pub equal : CountAsEqual (are_open (listing old) (state old)) (headers_equated old p) (state old) (args_forest old.context.trees p.first.header) (args_forest old.context.trees p.second.header) after
  pub at : IsInstanceWhereEqual old new (aside after) p x
  pub no_leak : x.is_certain ≡ true → Leaks (state old).newest_universe after → ⊥
  pub leak : x.leaks ≡ true → Leaks (state old).newest_universe after
  pub leaks_not : HaveNoAlias (args_forest old.context.trees p.first.header) (args_forest old.context.trees p.second.header) → x.leaks ≡ false → Leaks (state old).newest_universe after → ⊥

-- the headers of two impls at a state, with fresh variables for the parameters of both; and what their equation leaves

abbrev pub first_header : Context → State → Impl → Impl → Forest
first_header c S i j = (header_at c S i).arguments

abbrev pub second_header : Context → State → Impl → Impl → Forest
second_header c S i j = (header_at c (opened S i) j).arguments

abbrev pub equation_of : Judge → Context → State → Impl → Impl → Option State
equation_of J c S i j = accepted J (opened (opened S i) j) none (first_header c S i j) (second_header c S i j)

-- Both impls are known to hold of what is an instance of both headers: no alias stands in these, and each where clause of both holds by the
-- table, at the state at which the headers are equal.
pub record BothImplsHold (c : Context) (T : GoalTable Via) (S after : State) (i j : Impl) : Type 0 where
  pub no_alias : HaveNoAlias (first_header c S i j) (second_header c S i j)
  pub first : AllHold none c.trees T after (locals_of S i) i.wheres
  pub second : AllHold none c.trees T after (locals_of (opened S i) j) j.wheres

-- At that state of an evaluator: both are impls of one trait, and the reference is the first header where their headers count as equal, and
-- are one. Where it is certain, both impls hold of it by the table that is left, with nothing pending. It says whether a region leaks that a binder
-- of the headers binds, unless an alias stands in one; and where it is certain, none does.
pub record IsCommonInstance (old : Evaluator) (S : State) (new : Evaluator) (x : CommonInstance) (i j : Impl) : Type 0 where
  pub one_trait : i.trait_ref.def_id ≡ j.trait_ref.def_id
  pub after : State
  pub equal : CountAsEqual (are_open (listing old) (opened (opened S i) j)) (equation_of (judge_of (fixed old)) old.context S i j) (opened (opened S i) j) (first_header old.context S i j) (second_header old.context S i j) after
  pub one : AreOneAt after (first_header old.context S i j) (second_header old.context S i j)
  pub is : IsReferenceAt (aside after) i.trait_ref.def_id (first_header old.context S i j) new.context.trees x.trait_ref
  pub certain : x.is_certain ≡ true → BothImplsHold old.context (sure_of new) S (aside after) i j
  pub no_leak : x.is_certain ≡ true → Leaks S.newest_universe after → ⊥
  pub leak : x.leaks ≡ true → Leaks S.newest_universe after
  pub leaks_not : HaveNoAlias (first_header old.context S i j) (second_header old.context S i j) → x.leaks ≡ false → Leaks S.newest_universe after → ⊥

-- Why it isn't known that two impls hold where their headers are equal.
use Rattle.std.specs.Prelude.{◌≡◌, ◌⊎◌, ◌||◌, ℕ, true, false, None, Some, List, slice_get}
use Rattle.ir_trees.specs.declared.decl.contents.ImplId.{ImplId}
use Rattle.ir_trees.specs.declared.ir.kinds.Clause.{Clause}
use Rattle.ir_trees.specs.Declarations.Context.{Context, Grows}
use Rattle.ir_trees.specs.Declarations.Contents.{Impl}
use Rattle.ir_trees.specs.Syntax.Trees.{Forest, none, Tree, holds, is_alias}
use Rattle.ir_trees.specs.Syntax.Words.{args_forest}
use Rattle.candidate_eval.specs.Derivations.ImplRules.{TraitGoal}
use Rattle.candidate_eval.specs.Dynamic.ObjectRequirements.{trait_said}
use Rattle.candidate_eval.specs.Judges.States.{Env, State}
use Rattle.candidate_rounds.specs.Calls.Standing.{stands_at}
use Rattle.candidate_rounds.specs.Evaluators.Interface.{fixed, judge_of}
use Rattle.candidate_rounds.specs.Evaluators.Known.{Evaluator, state}
use Rattle.candidate_rounds.specs.Evaluators.Leaking.{Leaks}
use Rattle.candidate_rounds.specs.Table.Goals.{Via}
use Rattle.rounds_judge.specs.Table.GoalTable.{GoalTable, verdict_in}
use Rattle.rounds_judge.specs.Table.Keys.{key_at}
use Rattle.overlaps.specs.Answered.{IsPlainYes, is_outlives}
use Rattle.overlaps.specs.Apart.{OfDeclared, aside, opened}
use Rattle.overlaps.specs.Asked.{AsksUnder}
use Rattle.overlaps.specs.Instance.{first_header, second_header}
use Rattle.overlaps.specs.Ordered.{in_order}
use Rattle.overlaps.specs.PartTraits.{MayRestOnPart}
use Rattle.overlaps.specs.Refused.{MakesHeadersEqual, clause_at, headers_equated, locals_of}
use Rattle.overlaps.specs.declared.opening.Opened.{Opened}
use Rattle.overlaps.specs.declared.opening.Pair.{Pair}
use Rattle.overlaps.specs.declared.overlap.Overlap.{Overlap}
use Rattle.overlaps.specs.declared.overlap.Overlap.TheVariants as O

-- Why the table doesn't make it certain that the goal holds: it doesn't stand at the state; the table has no Yes for it that gives no values; or it
-- may rest on an impl of an auto trait, or on unsizing, as a context has it that comes after.
pub data IsUnanswered (c : Context) (T : GoalTable Via) (S : State) (g : TraitGoal) : Type 0 where
  no_goal : (stands_at S g ≡ true → ⊥) → IsUnanswered c T S g
  no_plain_yes : (IsPlainYes (verdict_in T (key_at S g)) → ⊥) → IsUnanswered c T S g
  by_part : (later : Context) → Grows c later → MayRestOnPart later (record { 0 = g.reference.trait }) → IsUnanswered c T S g

-- Why a clause, with all values put in, isn't certain: it says neither what outlives what, nor anything of a trait; or its goal isn't.
pub data HoldsNot (env : Env) (c : Context) (T : GoalTable Via) (S : State) (clause : Tree) : Type 0 where
  says_else : is_outlives clause.head ≡ false → trait_said clause.head ≡ None → HoldsNot env c T S clause
  unanswered : (g : TraitGoal) → AsksUnder env clause g → IsUnanswered c T S g → HoldsNot env c T S clause

-- The declared clause isn't, with these for its parameters; nor is the one of that number; and one of them isn't.

abbrev pub HoldsNotWith : Env → Context → GoalTable Via → State → Forest → Clause → Type 0
HoldsNotWith env c T S locals x = HoldsNot env c T S (clause_at c S locals x)

pub record HoldsNotAt (env : Env) (c : Context) (T : GoalTable Via) (S : State) (locals : Forest) (xs : List Clause) (number : ℕ) : Type 0 where
  pub clause : Clause
  pub is : slice_get xs number ≡ Some clause
  pub why : HoldsNotWith env c T S locals clause

abbrev pub OneHoldsNot : Env → Context → GoalTable Via → State → Forest → List Clause → Type 0
OneHoldsNot env c T S locals xs = (n : ℕ) × HoldsNotAt env c T S locals xs n

-- The same of an open impl without an environment, and of one of two.

abbrev pub ImplHoldsNot : Context → GoalTable Via → State → Opened → Type 0
ImplHoldsNot c T S o = OneHoldsNot none c T S (args_forest c.trees o.locals) o.wheres.items

abbrev pub EitherHoldsNot : Context → GoalTable Via → State → Pair → Type 0
EitherHoldsNot c T S p = ImplHoldsNot c T S p.first ⊎ ImplHoldsNot c T S p.second

-- an alias stands in one of the headers
abbrev pub HeadersHaveAlias : Forest → Forest → Type 0
HeadersHaveAlias f g = holds is_alias f || holds is_alias g ≡ true

-- Why it isn't certain of two open impls whose headers are equal at the state.
abbrev pub IsUncertainWhereEqual : Context → GoalTable Via → State → Pair → Type 0
IsUncertainWhereEqual c T S p = HeadersHaveAlias (args_forest c.trees p.first.header) (args_forest c.trees p.second.header) ⊎ EitherHoldsNot c T S p

-- Why it isn't of two open impls: an alias stands in a header; or, where these were made equal, a region leaks, which a binder of them binds, or a
-- clause isn't certain by the table that is left.
pub data PairIsUncertain (old : Evaluator) (U : GoalTable Via) (p : Pair) : Type 0 where
  pair_has_alias : HeadersHaveAlias (args_forest old.context.trees p.first.header) (args_forest old.context.trees p.second.header) → PairIsUncertain old U p
  pair_leaks : (after : State) → headers_equated old p ≡ Some after → Leaks (state old).newest_universe after → PairIsUncertain old U p
  pair_has_clause : (after : State) → headers_equated old p ≡ Some after → EitherHoldsNot old.context U (aside after) p → PairIsUncertain old U p

-- The same of two declared impls, opened at that state.
pub data ImplsAreUncertain (old : Evaluator) (S : State) (U : GoalTable Via) (i j : Impl) : Type 0 where
  impls_have_alias : HeadersHaveAlias (first_header old.context S i j) (second_header old.context S i j) → ImplsAreUncertain old S U i j
  impls_leak : (after : State) → MakesHeadersEqual (judge_of (fixed old)) old.context S i j after → Leaks S.newest_universe after → ImplsAreUncertain old S U i j
  impls_have_clause : (after : State) → MakesHeadersEqual (judge_of (fixed old)) old.context S i j after
      → OneHoldsNot none old.context U (aside after) (locals_of S i) i.wheres ⊎ OneHoldsNot none old.context U (aside after) (locals_of (opened S i) j) j.wheres
      → ImplsAreUncertain old S U i j

-- Of two impls, with nothing pending: that of the lower number is the first one, whichever is given first.
abbrev pub IsUncertain : Evaluator → GoalTable Via → ImplId → ImplId → Type 0
IsUncertain old U a b = let p = in_order a b in OfDeclared old.context p.0 p.1 (ImplsAreUncertain old (aside (state old)) U)

-- what is said where two impls may overlap, and it isn't certain
abbrev pub WhereUncertain : Type 0 → Overlap → Type 0
WhereUncertain P (O.May x) = x.is_certain ≡ false → P
WhereUncertain P _ = Unit {0}

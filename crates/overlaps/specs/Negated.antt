-- When a where clause of one of two impls is known not to hold where the other one does.
use Rattle.std.specs.Prelude.{◌≡◌, ◌⊎◌, ◌∷◌, [], ℕ, List, Some, map, slice_get}
use Rattle.std.specs.List.{Contains}
use Rattle.ir_trees.specs.declared.decl.contents.ImplId.{ImplId}
use Rattle.ir_trees.specs.declared.ir.kinds.Args.{Args}
use Rattle.ir_trees.specs.declared.ir.kinds.Clause.{Clause}
use Rattle.ir_trees.specs.declared.ir.kinds.ParamEnv.{ParamEnv}
use Rattle.ir_trees.specs.declared.ir.kinds.PredicatePolarity.{PredicatePolarity}
use Rattle.ir_trees.specs.declared.ir.kinds.PredicatePolarity.TheVariants.{Negative, Positive}
use Rattle.ir_trees.specs.Declarations.Context.{Context, Grows}
use Rattle.ir_trees.specs.Declarations.Contents.{Impl}
use Rattle.ir_trees.specs.Hierarchy.Elaboration.{IsElaboration}
use Rattle.ir_trees.specs.Syntax.Trees.{Forest, none, Tree}
use Rattle.ir_trees.specs.Syntax.Words.{args_forest, clause_tree, env_forest}
use Rattle.ir_trees.specs.Unification.Substitutions.{alone}
use Rattle.candidate_eval.specs.Derivations.ImplRules.{TraitGoal}
use Rattle.candidate_eval.specs.Dynamic.ObjectRequirements.{arguments_of, trait_said}
use Rattle.candidate_eval.specs.Dynamic.Required.{each_of}
use Rattle.candidate_eval.specs.Interface.Evaluators.{accepted, rigid}
use Rattle.candidate_eval.specs.Judges.States.{Env, Judge, State}
use Rattle.candidate_assembly.specs.Answers.KnownImpls.{kinds_of_impl}
use Rattle.candidate_rounds.specs.Evaluators.Interface.{fixed, judge_of}
use Rattle.candidate_rounds.specs.Evaluators.Known.{Evaluator, state}
use Rattle.candidate_rounds.specs.Evaluators.Leaking.{Leaks}
use Rattle.candidate_rounds.specs.Table.Goals.{Via}
use Rattle.rounds_judge.specs.Table.GoalTable.{GoalTable, verdict_in}
use Rattle.rounds_judge.specs.Table.Keys.{key_at}
use Rattle.overlaps.specs.Answered.{HoldsForAll, IsPlainYes}
use Rattle.overlaps.specs.Apart.{OfDeclared, aside, entered, opened}
use Rattle.overlaps.specs.Refused.{MakesHeadersEqual, clause_at, headers_equated, locals_of}
use Rattle.overlaps.specs.Specialized.{IsEnvironmentOf}
use Rattle.overlaps.specs.declared.opening.Opened.{Opened}
use Rattle.overlaps.specs.declared.opening.Pair.{Pair}
use Rattle.overlaps.specs.declared.overlap.WhereClause.{WhereClause}

-- what says the opposite
abbrev pub turned : PredicatePolarity → PredicatePolarity
turned Positive = Negative
turned Negative = Positive

-- The opposite of what the clause says of a trait, asked at the state under that environment, has a Yes in the table which says nothing of any
-- variable, and of regions nothing but what holds for every placeholder.
pub record IsDenied (env : Env) (T : GoalTable Via) (S : State) (clause : Tree) : Type 0 where
  pub goal : TraitGoal
  pub says : trait_said clause.head ≡ Some (record { 0 = goal.reference.trait }, turned goal.polarity)
  pub arguments : goal.reference.arguments ≡ arguments_of clause
  pub under : goal.env ≡ env
  pub answered : IsPlainYes (verdict_in T (key_at S goal))
  pub for_all : HoldsForAll (verdict_in T (key_at S goal))

-- The same of one of several clauses.
pub record OneIsDenied (env : Env) (T : GoalTable Via) (S : State) (clauses : List Tree) : Type 0 where
  pub clause : Tree
  pub there : Contains clauses clause
  pub denied : IsDenied env T S clause

-- These are a declared clause, with what stands for its parameters and all values put in, and all that it implies, as a context has it that comes
-- after.
pub record AreImplied (c : Context) (S : State) (locals : Forest) (x : Clause) (all : List Tree) : Type 0 where
  pub later : Context
  pub grows : Grows c later
  pub elaborated : IsElaboration later (clause_at c S locals x ∷ []) all

-- A declared clause with these for its parameters and all values put in implies one of which the opposite is answered, be it itself.
pub record ImpliesDenied (env : Env) (c : Context) (T : GoalTable Via) (S : State) (locals : Forest) (x : Clause) : Type 0 where
  pub all : List Tree
  pub implied : AreImplied c S locals x all
  pub one : OneIsDenied env T S all

-- The declared clause of that number does.
pub record IsNegatedAt (env : Env) (c : Context) (T : GoalTable Via) (S : State) (locals : Forest) (xs : List Clause) (number : ℕ) : Type 0 where
  pub clause : Clause
  pub is : slice_get xs number ≡ Some clause
  pub negated : ImpliesDenied env c T S locals clause

-- declared clauses with these for their parameters and all values put in
abbrev pub clauses_at : Context → State → Forest → List Clause → List Tree
clauses_at c S locals xs = map (clause_at c S locals) xs

-- These by the numbers that an evaluator has of an environment, of arguments and of clauses, at its state.

abbrev pub ClauseIsNegated : Evaluator → GoalTable Via → ParamEnv → Args → Clause → Type 0
ClauseIsNegated r T env locals x =
    let ts = r.context.trees in ImpliesDenied (env_forest ts env) r.context T (state r) (args_forest ts locals) x

abbrev pub OneIsDeniedHere : Evaluator → GoalTable Via → ParamEnv → List Clause → Type 0
OneIsDeniedHere r T env xs =
    let ts = r.context.trees in OneIsDenied (env_forest ts env) T (state r) (map (clause_tree ts) xs)

abbrev pub OneIsNegated : Evaluator → GoalTable Via → ParamEnv → Args → List Clause → ℕ → Type 0
OneIsNegated r T env locals xs number =
    let ts = r.context.trees in IsNegatedAt (env_forest ts env) r.context T (state r) (args_forest ts locals) xs number

-- The environment of an open impl's where clauses, with all values of the state put in, and of all that they imply.
abbrev pub IsEnvironmentAt : Context → State → Opened → Env → Type 0
IsEnvironmentAt c S o env = IsEnvironmentOf c (clauses_at c S (args_forest c.trees o.locals) o.wheres.items) env

-- The clause of that number of the second open impl does, under the environment of those of the first one.
pub record IsNegatedUnder (r : Evaluator) (T : GoalTable Via) (p : Pair) (number : ℕ) : Type 0 where
  pub env : Env
  pub is_env : IsEnvironmentAt r.context (state r) p.first env
  pub negated : IsNegatedAt env r.context T (state r) (args_forest r.context.trees p.second.locals) p.second.wheres.items number

-- Variables become placeholders, each the one that stands in its own place of the other row: accepted equations of the two lead from the first state
-- to the second one.
pub data ArePlugged (J : Judge) (S : State) (variables placeholders : Forest) : State → Type 0 where
  no_more : ArePlugged J S variables placeholders S
  one_more : {T U : State} (place : ℕ) (x name : Tree) → ArePlugged J S variables placeholders T → slice_get (each_of variables) place ≡ Some x
      → slice_get (each_of placeholders) place ≡ Some name → accepted J T none (alone x) (alone name) ≡ Some U → ArePlugged J S variables placeholders U

-- One becomes its own, or the state stays.
abbrev pub MayBePlugged : Judge → State → Tree → Tree → State → Type 0
MayBePlugged J S x name T = (T ≡ S) ⊎ (accepted J S none (alone x) (alone name) ≡ Some T)

-- The variables of two impls do, those of the first before those of the second.
pub record BothArePlugged (J : Judge) (S : State) (variables placeholders : Forest × Forest) (T : State) : Type 0 where
  pub between : State
  pub first : ArePlugged J S variables.0 placeholders.0 between
  pub second : ArePlugged J between variables.1 placeholders.1 T

-- the trees of two lists, and of what stands for the parameters of two open impls

abbrev pub both_forests : List Tree → Args × Args → Forest × Forest
both_forests ts xs = (args_forest ts xs.0, args_forest ts xs.1)

abbrev pub locals_of_both : List Tree → Pair → Forest × Forest
locals_of_both ts p = both_forests ts (p.first.locals, p.second.locals)

-- The same of two open impls, once their variables have become these placeholders from that state on.
pub record IsNegatedFrom (r : Evaluator) (after : State) (placeholders : Forest × Forest) (T : GoalTable Via) (p : Pair) (number : ℕ) : Type 0 where
  pub plugged : State
  pub leads : BothArePlugged (judge_of (fixed r)) after (locals_of_both r.context.trees p) placeholders plugged
  pub env : Env
  pub is_env : IsEnvironmentAt r.context plugged p.first env
  pub negated : IsNegatedAt env r.context T plugged (args_forest r.context.trees p.second.locals) p.second.wheres.items number

-- The same, once their headers were made equal, and no region leaks that a binder of them binds.
pub record IsNegatedOfPair (r : Evaluator) (placeholders : Forest × Forest) (T : GoalTable Via) (p : Pair) (number : ℕ) : Type 0 where
  pub after : State
  pub equal : headers_equated r p ≡ Some after
  pub no_leak : Leaks (state r).newest_universe after → ⊥
  pub from : IsNegatedFrom r after placeholders T p number

-- The state in which placeholders of fresh universes stand for the parameters of both, before these have variables.
abbrev pub with_names : State → Impl → Impl → State
with_names S i j = entered (entered S i) j

-- these placeholders, of the first one and of the second one
abbrev pub names_of : State → Impl → Impl → Forest × Forest
names_of S i j = (rigid S (kinds_of_impl i), rigid (entered S i) (kinds_of_impl j))

-- the variables that stand for the parameters of both
abbrev pub variables_of : State → Impl → Impl → Forest × Forest
variables_of S i j = (locals_of S i, locals_of (opened S i) j)

-- At that state of an evaluator, of the second impl this where clause is known not to hold where the first one does, of whatever both are instances.
-- Their headers were made equal, where no region leaks, and the variables of both that are left became placeholders, each its own. Under the first one's where clauses with
-- all values put in, and all that these imply, the clause implies one of which the opposite is answered.
pub record IsNegatedBy (old : Evaluator) (S : State) (T : GoalTable Via) (number : ℕ) (i j : Impl) : Type 0 where
  pub after : State
  pub equal : MakesHeadersEqual (judge_of (fixed old)) old.context (with_names S i j) i j after
  pub no_leak : Leaks (with_names S i j).newest_universe after → ⊥
  pub plugged : State
  pub leads : BothArePlugged (judge_of (fixed old)) after (variables_of (with_names S i j) i j) (names_of S i j) plugged
  pub env : Env
  pub is_env : IsEnvironmentOf old.context (clauses_at old.context plugged (locals_of (with_names S i j) i) i.wheres) env
  pub negated : IsNegatedAt env old.context T plugged (locals_of (opened (with_names S i j) i) j) j.wheres number

-- That where clause, of the one of the two whose number it has, is known not to hold where the other one does, with nothing pending.
pub data IsKeptApart (old : Evaluator) (T : GoalTable Via) (a b : ImplId) (w : WhereClause) : Type 0 where
  clause_of_second : w.of ≡ b → OfDeclared old.context a b (IsNegatedBy old (aside (state old)) T w.number) → IsKeptApart old T a b w
  clause_of_first : w.of ≡ a → OfDeclared old.context b a (IsNegatedBy old (aside (state old)) T w.number) → IsKeptApart old T a b w

-- Rounds over the table of an evaluator, by its judge.
use Rattle.std.specs.Prelude.{◌≡◌, ◌<◌, ◌≤◌, ◌⊎◌, ℕ, zero, suc, true, false, Option, Some, None, List, [], ◌∷◌, ◌++◌, length, slice_get, Result, Ok, Err}
use Rattle.std.specs.Option.{option_map}
use Rattle.ir_trees.specs.declared.ir.stop.Stop.{Stop}
use Rattle.ir_trees.specs.declared.ir.stop.Stop.TheVariants.{EvaluatorLimit}
use Rattle.ir_trees.specs.Declarations.Context.{Context, Grows}
use Rattle.ir_trees.specs.Syntax.Nodes.{Extends}
use Rattle.ir_trees.specs.Syntax.Trees.{Tree}
use Rattle.ir_trees.specs.Validity.WellFormed.{IsWellFormedTable}
use Rattle.candidate_eval.specs.declared.eval.refusal.NoSolutionOrStop.{NoSolutionOrStop}
use Rattle.candidate_eval.specs.declared.eval.refusal.NoSolutionOrStop.TheVariants as N
use Rattle.candidate_eval.specs.declared.eval.response.CanonicalResponse.{CanonicalResponse}
use Rattle.candidate_eval.specs.Derivations.ImplRules.{TraitGoal}
use Rattle.candidate_eval.specs.Interface.Knowing.{is_evaluator_stop}
use Rattle.candidate_eval.specs.Interface.Noting.{IsNotingStop}
use Rattle.candidate_eval.specs.Outcomes.ResponseTrees.{IsResponse, response_of}
use Rattle.candidate_eval.specs.Judges.States.{State}
use Rattle.candidate_assembly.specs.Answers.Backing.{IsBacked}
use Rattle.candidate_assembly.specs.Answers.Telling.{StopsOfItself}
use Rattle.candidate_assembly.specs.Rules.AliasFaults.{PutsOffOnce, misplaced_text}
use Rattle.candidate_assembly.specs.Answers.TraitAnswers.{IsTraitAnswer, TraitAnswer, Answered, Refused, Stopped}
use Rattle.candidate_rounds.specs.declared.rounds.goals.Verdict.{Verdict as NumberedVerdict}
use Rattle.candidate_rounds.specs.declared.rounds.writing.Written.{Written}
use Rattle.candidate_rounds.specs.Table.Goals.{IsVerdict, Via, verdict_seen}
use Rattle.candidate_rounds.specs.Evaluators.Interface.{Fixed, fixed, judge_of}
use Rattle.candidate_rounds.specs.Evaluators.Known.{Evaluator, listing, probes, state, table_of}
use Rattle.candidate_rounds.specs.Evaluators.Stopping.{IsGoalKeyStop, accounts}
use Rattle.derivations.specs.DerivedTables.{AnswerIsDerived}
use Rattle.rounds_judge.specs.Table.GoalTable.{Entry, GoalTable, entered_in, is_entered, may_be_read, most_goals, verdict_in}
use Rattle.rounds_judge.specs.Table.Keys.{Key, key_at, same_key, start_of}
use Rattle.rounds_judge.specs.Table.Rounds.{PureFolder, Changes, IsRound, IsStep, Stays, StepsWithin, most_steps}
use Rattle.rounds_judge.specs.Table.Verdicts.{Answer, Verdict, is_final, verdict_of}

-- An answer by its trees, and as what a goal comes to.

abbrev pub told : List Tree → Option (CanonicalResponse × Option Via) → Answer Via
told ts None = None
told ts (Some a) = Some (response_of ts a.0, a.1)

abbrev pub said_by : Answer Via → TraitAnswer
said_by None = Refused
said_by (Some a) = Answered a

-- a refusal is an answer, too, and a stop isn't
abbrev pub answered_as : Result (CanonicalResponse × Option Via) NoSolutionOrStop → Result (Option (CanonicalResponse × Option Via)) Stop
answered_as (Ok a) = Ok (Some a)
answered_as (Err N.NoSolution) = Ok None
answered_as (Err (N.Stop s)) = Err s

abbrev pub IsAnswer : List Tree → Option (CanonicalResponse × Option Via) → Type 0
IsAnswer ts None = Unit {0}
IsAnswer ts (Some a) = IsResponse ts a.0

-- what stays fixed, with another table, beside which nothing is noted
abbrev pub with_table : Fixed → GoalTable Via → Fixed
with_table f T = record f { table = T; notes = [] }

-- what of it an evaluator's judge goes by: its table, and nothing that is noted
abbrev pub judged_by : Evaluator → Fixed
judged_by r = with_table (fixed r) (table_of r)

-- What the goal of a key comes to at its start, for an evaluator's judge that reads the table. The context is one to which the evaluator's
-- grew, and nothing is wrong with what it declares. The answer carries what `compute_trait_goal` promises: what a sure answer rests on, and
-- what a refusal in coherence says.
pub record IsComputed (r : Evaluator) (T : GoalTable Via) (k : Key) (a : Answer Via) : Type 0 where
  pub context : Context
  pub grows : Grows r.context context
  pub well_formed : IsWellFormedTable context
  pub left : State
  pub comes : IsTraitAnswer (judge_of (with_table (fixed r) T)) context (start_of r.mode k) k.goal left (said_by a)
  pub backed : IsBacked (judge_of (with_table (fixed r) T)) context (start_of r.mode k) k.goal (said_by a)

abbrev pub computing : Evaluator → PureFolder Via
computing r = IsComputed r

-- The faults that computing goals puts off, one after the other: each is that of the end of a goal's chain of aliases.
pub data PutsOffByGoals : List (List ℕ) → List (List ℕ) → Type 0 where
  none_off : {xs : List (List ℕ)} → PutsOffByGoals xs xs
  one_off : {xs ys : List (List ℕ)} → PutsOffByGoals xs ys → PutsOffByGoals xs (ys ++ misplaced_text ∷ [])

-- Of these computing one goal puts off at most one.
abbrev pub PutsOffOneAtMost : Evaluator → Evaluator → Type 0
PutsOffOneAtMost old new = PutsOffOnce (λ end. Unit {0}) old.context.delayed_bugs new.context.delayed_bugs

-- Of an evaluator all is as it was but the table and such faults: what is known, the open probes, and what is declared and given, by trees.
pub record StaysBesideTable (old new : Evaluator) : Type 0 where
  pub grows : Grows old.context new.context
  pub fixed_same : with_table (fixed new) [] ≡ with_table (fixed old) []
  pub state_same : state new ≡ state old
  pub probes_same : probes new ≡ probes old
  pub faults : PutsOffByGoals old.context.delayed_bugs new.context.delayed_bugs

-- A table comes from another one by steps: in each some goals are computed by what is declared and given here, as the judge has it that reads the table
-- of the step before. A goal may be entered that isn't computed.
pub data ComesFrom (r : Evaluator) (T : GoalTable Via) : GoalTable Via → Type 0 where
  as_it_is : ComesFrom r T T
  one_step : {U V : GoalTable Via} → ComesFrom r T U → IsStep (computing r) U V → ComesFrom r T V

-- The table is as it was, or the goal of that key is entered in it.
abbrev pub MayBeEntered : GoalTable Via → Key → GoalTable Via → Type 0
MayBeEntered T k U = (U ≡ T) ⊎ (U ≡ entered_in T k)

-- What a round or a step has for a place of the table: nothing where what is there may stay, and else the verdict of what the goal comes
-- to, which isn't final yet.

pub record IsWrittenFor (ts : List Tree) (A : PureFolder Via) (T : GoalTable Via) (k : Key) (w : Written) : Type 0 where
  pub answer : Answer Via
  pub computed : A T k answer
  pub says : verdict_seen ts w.verdict ≡ verdict_of answer
  pub sort : IsVerdict ts (Some w.verdict)
  pub readable : w.is_readable ≡ may_be_read k (Some (verdict_seen ts w.verdict))

abbrev pub IsWrittenAt : Stays Via → List Tree → PureFolder Via → GoalTable Via → Entry Via → Option Written → Type 0
IsWrittenAt P ts A T e None = P e
IsWrittenAt P ts A T e (Some w) = (is_final e.verdict ≡ false) × IsWrittenFor ts A T e.key w

abbrev pub AreWritten : Stays Via → List Tree → PureFolder Via → GoalTable Via → GoalTable Via → List (Option Written) → Type 0
AreWritten P ts A T [] [] = Unit {0}
AreWritten P ts A T (e ∷ es) (w ∷ ws) = IsWrittenAt P ts A T e w × AreWritten P ts A T es ws
AreWritten P ts A T _ _ = ⊥

-- the first goal with that key has that place
abbrev pub IsPlaceOf : GoalTable Via → Key → ℕ → Type 0
IsPlaceOf [] k n = ⊥
IsPlaceOf (e ∷ es) k zero = same_key e.key k ≡ true
IsPlaceOf (e ∷ es) k (suc n) = (same_key e.key k ≡ false) × IsPlaceOf es k n

-- the goal of that place has that key, and no other one
abbrev pub IsOnlyPlaceOf : GoalTable Via → Key → ℕ → Type 0
IsOnlyPlaceOf [] k n = ⊥
IsOnlyPlaceOf (e ∷ es) k zero = (same_key e.key k ≡ true) × (is_entered es k ≡ false)
IsOnlyPlaceOf (e ∷ es) k (suc n) = (same_key e.key k ≡ false) × IsOnlyPlaceOf es k n

-- what is written at a place
abbrev pub verdict_at : GoalTable Via → ℕ → Option (Verdict Via)
verdict_at [] n = None
verdict_at (e ∷ es) zero = e.verdict
verdict_at (e ∷ es) (suc n) = verdict_at es n

-- What is written for the goal of the key, if it is a Yes, has a derivation, where no error of regions stands in a goal of the table.
abbrev pub IsDerivedFor : Evaluator → Key → Option NumberedVerdict → Type 0
IsDerivedFor r k v = AnswerIsDerived r.context (listing r) (table_of r) k (option_map (verdict_seen r.context.trees) v)

-- So many rounds were done, each while the goal wasn't final, and each changed the table.
pub data AreDone (A : PureFolder Via) (k : Key) : ℕ → GoalTable Via → GoalTable Via → Type 0 where
  none_done : {T : GoalTable Via} → AreDone A k zero T T
  one_done : {n : ℕ} {T U V : GoalTable Via} → is_final (verdict_in T k) ≡ false → IsRound A T U → Changes T U → AreDone A k n U V → AreDone A k (suc n) T V

-- The table of the last whole round, of which there were fewer than that. None of them made the goal final.
pub record IsDoneBelow (A : PureFolder Via) (k : Key) (rounds : ℕ) (T U : GoalTable Via) : Type 0 where
  pub count : ℕ
  pub fewer : count < rounds
  pub done : AreDone A k count T U
  pub as_final : is_final (verdict_in U k) ≡ is_final (verdict_in T k)

-- Why the goal of a key wasn't computed at its start, by a judge that reads the table: it comes to the stop of a rule, or the evaluator
-- stopped of itself and accounts for it. The trees of the evaluator that this left are the first of these.
pub record IsComputingStop (ts : List Tree) (r : Evaluator) (T : GoalTable Via) (k : Key) (s : Stop) : Type 0 where
  pub first : Evaluator
  pub grows : Grows r.context first.context
  pub fixed_same : judged_by first ≡ with_table (fixed r) T
  pub begins : state first ≡ start_of r.mode k
  pub last : Evaluator
  pub among : Extends last.context.trees ts
  pub comes : is_evaluator_stop s ≡ false → IsTraitAnswer (judge_of (with_table (fixed r) T)) first.context (start_of r.mode k) k.goal (state last) (Stopped s)
  pub own : StopsOfItself fixed (λ e. e.context) state accounts first last s

-- Why a round of that table stopped: a growth was refused, or a node has more children than can be counted; or the goal of a place wasn't
-- computed.
pub data IsRoundStop (ts : List Tree) (r : Evaluator) (T : GoalTable Via) (s : Stop) : Type 0 where
  round_looking : IsNotingStop ts s → IsRoundStop ts r T s
  round_computing : (place : ℕ) (e : Entry Via) → slice_get T place ≡ Some e → IsComputingStop ts r T e.key s → IsRoundStop ts r T s

-- Why a goal wasn't entered in that table: its key wasn't made; or it isn't there, and there was no room for it.
pub data IsEnteringStop (ts : List Tree) (r : Evaluator) (g : TraitGoal) (T : GoalTable Via) : Stop → Type 0 where
  entering_key : {s : Stop} → IsGoalKeyStop ts (state r) g s → IsEnteringStop ts r g T s
  entering_full : is_entered T (key_at (state r) g) ≡ false → most_goals ≤ length T → IsEnteringStop ts r g T EvaluatorLimit

-- Why a run of a goal stopped, which leaves that table: the goal wasn't entered, or a round stopped.
pub data IsRunStop (ts : List Tree) (r : Evaluator) (g : TraitGoal) (T : GoalTable Via) : Stop → Type 0 where
  run_entering : {s : Stop} → IsEnteringStop ts r g T s → IsRunStop ts r g T s
  run_round : {s : Stop} → IsRoundStop ts r T s → IsRunStop ts r g T s

-- The table that a run leaves where it stops: the first one, where the goal wasn't entered; and where a round stopped, with the goal
-- entered, that of the last whole round.
pub data IsLeftStopped (ts : List Tree) (r : Evaluator) (g : TraitGoal) (rounds : ℕ) (T U : GoalTable Via) : Stop → Type 0 where
  not_entered : {s : Stop} → IsEnteringStop ts r g T s → U ≡ T → IsLeftStopped ts r g rounds T U s
  after_rounds : {s : Stop} → IsRoundStop ts r U s → IsDoneBelow (computing r) (key_at (state r) g) rounds (entered_in T (key_at (state r) g)) U
      → IsLeftStopped ts r g rounds T U s

-- The same of a run until the table is settled: where a step stopped, the table is that of the last whole step.
pub data IsLeftUnsettled (ts : List Tree) (r : Evaluator) (g : TraitGoal) (T U : GoalTable Via) : Stop → Type 0 where
  not_begun : {s : Stop} → IsEnteringStop ts r g T s → U ≡ T → IsLeftUnsettled ts r g T U s
  after_steps : {s : Stop} → IsRoundStop ts r U s → StepsWithin (computing r) (key_at (state r) g) most_steps (entered_in T (key_at (state r) g)) U
      → IsLeftUnsettled ts r g T U s

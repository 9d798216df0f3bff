-- What normalising a projection answers under a table of goals, and what it leaves.
use Rattle.std.specs.Prelude.{◌≡◌, ◌++◌, ℕ, List, length, map, Option, Some, None, Result, Ok, Err, IfOk}
use Rattle.ir_trees.specs.declared.ir.kinds.AliasTy.{AliasTy}
use Rattle.ir_trees.specs.declared.ir.kinds.ParamEnv.{ParamEnv}
use Rattle.ir_trees.specs.declared.ir.stop.Stop.{Stop}
use Rattle.ir_trees.specs.Declarations.Context.{Grows}
use Rattle.ir_trees.specs.Syntax.Trees.{Tree}
use Rattle.candidate_eval.specs.declared.eval.refusal.NoSolutionOrStop.{NoSolutionOrStop}
use Rattle.candidate_eval.specs.declared.eval.refusal.NoSolutionOrStop.TheVariants as N
use Rattle.candidate_eval.specs.declared.eval.response.CanonicalResponse.{CanonicalResponse}
use Rattle.candidate_eval.specs.Interface.Noting.{IsNotingStop}
use Rattle.candidate_assembly.specs.Answers.Shown.{IsAnsweredBy}
use Rattle.candidate_rounds.specs.Evaluators.Inferences.{IsFullAt}
use Rattle.candidate_rounds.specs.Evaluators.Interface.{fixed}
use Rattle.candidate_rounds.specs.Evaluators.Known.{Evaluator, state, table_of}
use Rattle.candidate_rounds.specs.Evaluators.Stopping.{IsGoalKeyStop}
use Rattle.candidate_rounds.specs.Table.Goals.{Via}
use Rattle.candidate_rounds.specs.Table.Running.{computing, judged_by, with_table}
use Rattle.projection_goals.specs.declared.kind.NormalizesTo.{NormalizesTo}
use Rattle.projection_goals.specs.Closures.{always, answers_rigid}
use Rattle.projection_goals.specs.Normalizing.{normalizes_goal, normalizes_kind}
use Rattle.rounds_judge.specs.Table.GoalTable.{GoalTable, AreNew, unanswered, verdict_in}
use Rattle.rounds_judge.specs.Table.Keys.{Key, key_at, start_of}
use Rattle.candidate_rounds.specs.declared.rounds.effort.Effort.{Effort}
use Rattle.candidate_rounds.specs.Table.Efforts.{IsLeftBy, Runs}
use Rattle.rounds_judge.specs.Table.Verdicts.{Verdict, Maybe, Refused, Yes}
use Rattle.candidate_eval.specs.Outcomes.ResponseTrees.{response_of}
use Rattle.candidate_rounds.specs.Table.DerivedNormals.{SureIsDerived}
use Rattle.candidate_rounds.specs.Table.Normalizing.{goal_of_trait, rounds_shown, term_goal, with_term}

-- What `compute_normalizes_to` answers of that goal for an evaluator's judge that reads the table, where nothing but the key's variables and
-- the term's is known, and the goal of the trait was proved in that way. Its numbers are read by these trees.
pub record IsNormalizedBy (ts : List Tree) (r : Evaluator) (T : GoalTable Via) (k : Key) (item : ℕ) (way : Option Via) (answer : Result CanonicalResponse NoSolutionOrStop) : Type 0 where
  pub first : Evaluator
  pub left : Evaluator
  -- the trees are those that the call leaves
  pub left_trees : left.context.trees ≡ ts
  pub grows : Grows r.context first.context
  pub fixed_same : judged_by first ≡ with_table (fixed r) T
  pub begins : state first ≡ start_of r.mode (with_term k)
  pub env : ParamEnv
  pub goal : NormalizesTo
  pub says : normalizes_goal first.context.trees env goal ≡ term_goal item k
  pub answered : IsAnsweredBy rounds_shown (always None) tt (answers_rigid rounds_shown env goal) tt normalizes_kind first env goal way answer left
  -- a sure answer is rigid, or that of one rule, whose nested goals have derivations
  pub sure : IfOk answer (λ x. SureIsDerived r T k item (response_of ts x))

-- A refusal is an answer, too, and a stop isn't.
abbrev pub as_answer : Result CanonicalResponse NoSolutionOrStop → Result (Option CanonicalResponse) Stop
as_answer (Ok r) = Ok (Some r)
as_answer (Err N.NoSolution) = Ok None
as_answer (Err (N.Stop s)) = Err s

-- Why the goal wasn't begun: no number or no node was left, or a node has more children than can be counted.
pub data IsNotBegun (ts : List Tree) (k : Key) (s : Stop) : Type 0 where
  by_counting : IsNotingStop ts s → IsNotBegun ts k s
  by_variables : IsFullAt (length k.variables) s → IsNotBegun ts k s
  by_nodes : IsFullAt (length ts) s → IsNotBegun ts k s

-- The same, with why it wasn't begun, where it wasn't.
pub data IsNormalizedAt (ts : List Tree) (r : Evaluator) (T : GoalTable Via) (k : Key) (item : ℕ) (way : Option Via) : Result (Option CanonicalResponse) Stop → Type 0 where
  not_begun : {s : Stop} → IsNotBegun ts k s → IsNormalizedAt ts r T k item way (Err s)
  begun : (answer : Result CanonicalResponse NoSolutionOrStop) → IsNormalizedBy ts r T k item way answer → IsNormalizedAt ts r T k item way (as_answer answer)

-- How the goal is proved, if it may hold: the way that the verdict names.
abbrev pub proved_via : Verdict Via → Option (Option Via)
proved_via (Yes r way) = Some way
proved_via (Maybe r way) = Some way
proved_via Refused = None

-- The table that is left: where it stopped, that of the run; else with the goals that were first asked meanwhile.
pub data IsLeftAfter (T U : GoalTable Via) : Result (Option CanonicalResponse) Stop → Type 0 where
  stopped : {s : Stop} → U ≡ T → IsLeftAfter T U (Err s)
  answered : {o : Option CanonicalResponse} (asked : List Key) → AreNew T asked → U ≡ T ++ map unanswered asked → IsLeftAfter T U (Ok o)

-- What a projection comes to by that effort, by the evaluator before, and the table that is left: the run of its trait's goal
-- stopped; or the goal is refused, and so is the projection; or else the projection's goal is computed under the table that the run left.
pub data IsNormalized (ts : List Tree) (r : Evaluator) (e : ParamEnv) (a : AliasTy) (effort : Effort) (U : GoalTable Via) : Result (Option CanonicalResponse) Stop → Type 0 where
  not_run : {s : Stop} → IsLeftBy ts r (goal_of_trait r.context e a) effort (table_of r) U s → IsNormalized ts r e a effort U (Err s)
  not_keyed : {s : Stop} → Runs (computing r) (key_at (state r) (goal_of_trait r.context e a)) effort (table_of r) U → IsGoalKeyStop ts (state r) (goal_of_trait r.context e a) s
      → IsNormalized ts r e a effort U (Err s)
  refused : Runs (computing r) (key_at (state r) (goal_of_trait r.context e a)) effort (table_of r) U → verdict_in U (key_at (state r) (goal_of_trait r.context e a)) ≡ Some Refused
      → IsNormalized ts r e a effort U (Ok None)
  normalized : {o : Result (Option CanonicalResponse) Stop} (T : GoalTable Via) (v : Verdict Via) (way : Option Via) → Runs (computing r) (key_at (state r) (goal_of_trait r.context e a)) effort (table_of r) T
      → verdict_in T (key_at (state r) (goal_of_trait r.context e a)) ≡ Some v → proved_via v ≡ Some way → IsNormalizedAt ts r T (key_at (state r) (goal_of_trait r.context e a)) a.id.0 way o
      → IsLeftAfter T U o → IsNormalized ts r e a effort U o

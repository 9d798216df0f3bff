-- Why it stops to list a goal's candidates, to find a derivation and to check one.
use Rattle.std.specs.Prelude.{◌≡◌, ◌≤◌, ℕ, false, length, slice_get, take, List, Some}
use Rattle.std.specs.List.{Contains}
use Rattle.ir_trees.specs.declared.ir.stop.Stop.{Stop}
use Rattle.ir_trees.specs.declared.ir.stop.Stop.TheVariants.{Memory, EvaluatorLimit}
use Rattle.ir_trees.specs.Declarations.Context.{Grows}
use Rattle.ir_trees.specs.Syntax.Nodes.{Extends}
use Rattle.ir_trees.specs.Syntax.Trees.{Tree}
use Rattle.candidate_eval.specs.Derivations.ImplRules.{TraitGoal}
use Rattle.candidate_eval.specs.Interface.Knowing.{is_evaluator_stop}
use Rattle.candidate_eval.specs.Interface.Noting.{IsNotingStop}
use Rattle.candidate_assembly.specs.declared.assembly.opaques.AssembleCandidatesFrom.TheVariants.{All}
use Rattle.candidate_assembly.specs.Answers.AssembledCalls.{IsAssembledAt}
use Rattle.candidate_assembly.specs.Answers.Listing.{Stops}
use Rattle.candidate_assembly.specs.Answers.Telling.{StopsOfItself}
use Rattle.candidate_assembly.specs.Goals.TraitRules.{trait_bounds, trait_rules}
use Rattle.rounds_judge.specs.Table.GoalTable.{Entry, GoalTable, most_goals}
use Rattle.rounds_judge.specs.Table.Keys.{Key, key_at, start_of}
use Rattle.candidate_rounds.specs.declared.rounds.derivation.DerivationStep.{DerivationStep}
use Rattle.candidate_rounds.specs.Evaluators.Interface.{fixed, judge_of}
use Rattle.candidate_rounds.specs.Evaluators.Known.{Evaluator, state, table_of}
use Rattle.candidate_rounds.specs.Evaluators.Stopping.{IsGoalKeyStop, accounts}
use Rattle.candidate_rounds.specs.Table.Goals.{Via, key_seen}
use Rattle.candidate_rounds.specs.Table.Running.{judged_by, with_table}
use Rattle.candidate_rounds.specs.Table.Steps.{entries_of}

-- Why the candidates for the goal of a key weren't listed at its start, by a judge that reads the table: their list comes to the stop of a
-- rule, or the evaluator stopped of itself and accounts for it. The trees of the evaluator that this left are the first of these.
pub record IsListingStop (ts : List Tree) (r : Evaluator) (T : GoalTable Via) (k : Key) (s : Stop) : Type 0 where
  pub first : Evaluator
  pub grows : Grows r.context first.context
  pub fixed_same : judged_by first ≡ with_table (fixed r) T
  pub begins : state first ≡ start_of r.mode k
  pub last : Evaluator
  pub among : Extends last.context.trees ts
  pub comes : is_evaluator_stop s ≡ false → IsAssembledAt trait_rules trait_bounds first.context (judge_of (with_table (fixed r) T)) (start_of r.mode k) k.goal All (state last) (Stops s)
  pub own : StopsOfItself fixed (λ (e : Evaluator). e.context) state accounts first last s

-- Why a key has no list of candidates: a growth was refused, or a node has more children than can be counted; or they weren't listed.
pub data IsKeyListStop (ts : List Tree) (r : Evaluator) (T : GoalTable Via) (k : Key) (s : Stop) : Type 0 where
  list_looking : IsNotingStop ts s → IsKeyListStop ts r T k s
  list_listing : IsListingStop ts r T k s → IsKeyListStop ts r T k s

-- Why a goal has none, by the table: its key wasn't made, or has none.
pub data IsGoalListStop (ts : List Tree) (r : Evaluator) (g : TraitGoal) (s : Stop) : Type 0 where
  list_key : IsGoalKeyStop ts (state r) g s → IsGoalListStop ts r g s
  list_key_then : IsKeyListStop ts r (table_of r) (key_at (state r) g) s → IsGoalListStop ts r g s

-- Each goal of the table is that of one of the steps, as it says.
pub record AreOfSteps (ts : List Tree) (ss : List DerivationStep) (T : GoalTable Via) : Type 0 where
  pub among : (e : Entry Via) → Contains T e → Contains (entries_of ts ss) e

-- Why what the steps of these places say wasn't entered alone: a growth was refused, or a node has more children than can be counted; or they
-- are as many as a table may have goals, or more.
pub data IsAssumingStop (ts : List Tree) (places : List ℕ) : Stop → Type 0 where
  assuming_looking : {s : Stop} → IsNotingStop ts s → IsAssumingStop ts places s
  assuming_full : most_goals ≤ length places → IsAssumingStop ts places EvaluatorLimit

-- Why the candidates for the goal of a key weren't listed where what the steps of these places say holds and nothing else is known: that wasn't
-- entered, or they weren't listed then, by a judge that reads a table of such goals.
pub data IsStepStop (ts : List Tree) (r : Evaluator) (ss : List DerivationStep) (places : List ℕ) (k : Key) (s : Stop) : Type 0 where
  step_assuming : IsAssumingStop ts places s → IsStepStop ts r ss places k s
  step_listing : (T : GoalTable Via) → AreOfSteps ts ss T → IsKeyListStop ts r T k s → IsStepStop ts r ss places k s

-- Why steps weren't checked, one after the other: one of them stopped, over those before it.
pub record AreStepsStop (ts : List Tree) (r : Evaluator) (ss : List DerivationStep) (s : Stop) : Type 0 where
  pub place : ℕ
  pub step : DerivationStep
  pub there : slice_get ss place ≡ Some step
  pub stops : IsStepStop ts r (take place ss) step.nested.items (key_seen ts step.key) s

-- Why steps weren't found by the goals of a table: a growth was refused, or a step stopped that was tried.
pub data IsSearchStop (ts : List Tree) (r : Evaluator) : Stop → Type 0 where
  search_memory : IsSearchStop ts r Memory
  search_step : {s : Stop} (ss : List DerivationStep) (places : List ℕ) (k : Key) → IsStepStop ts r ss places k s → IsSearchStop ts r s

-- Why a goal's derivation wasn't found: its key wasn't made, or then the steps weren't found.
pub data IsDerivationStop (ts : List Tree) (r : Evaluator) (g : TraitGoal) (s : Stop) : Type 0 where
  derivation_key : IsGoalKeyStop ts (state r) g s → IsDerivationStop ts r g s
  derivation_search : IsSearchStop ts r s → IsDerivationStop ts r g s

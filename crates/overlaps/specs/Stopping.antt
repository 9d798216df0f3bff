-- Why it stops to ask whether two impls overlap.
use Rattle.std.specs.Prelude.{◌≡◌, ℕ, false, List, [], Err}
use Rattle.ir_trees.specs.declared.ir.kinds.AliasTy.{AliasTy}
use Rattle.ir_trees.specs.declared.ir.kinds.Args.{Args}
use Rattle.ir_trees.specs.declared.ir.kinds.ParamEnv.{ParamEnv}
use Rattle.ir_trees.specs.declared.ir.kinds.TraitPredicate.{TraitPredicate}
use Rattle.ir_trees.specs.declared.ir.stop.Stop.{Stop}
use Rattle.ir_trees.specs.Declarations.Context.{Grows}
use Rattle.ir_trees.specs.Syntax.Nodes.{Extends}
use Rattle.ir_trees.specs.Syntax.Trees.{Tree}
use Rattle.ir_trees.specs.Syntax.Words.{IsArgs, IsParamEnv, args_forest}
use Rattle.candidate_eval.specs.Derivations.ImplRules.{TraitGoal}
use Rattle.candidate_eval.specs.declared.eval.response.CanonicalResponse.{CanonicalResponse}
use Rattle.candidate_eval.specs.Outcomes.ResponseTrees.{IsResponse, response_of}
use Rattle.candidate_eval.specs.Interface.Knowing.{is_evaluator_stop}
use Rattle.candidate_eval.specs.Interface.Shown.{Shown, StopsSomehow}
use Rattle.candidate_assembly.specs.Answers.Telling.{StopsOfItself}
use Rattle.candidate_assembly.specs.Goals.TraitGoals.{trait_goal}
use Rattle.candidate_assembly.specs.Answers.TraitAnswers.{IsTraitAnswer, Stopped}
use Rattle.candidate_rounds.specs.Evaluators.Interface.{fixed}
use Rattle.candidate_rounds.specs.Evaluators.Known.{Evaluator, listing, state, table_of}
use Rattle.candidate_rounds.specs.Evaluators.Stopping.{IsCanonicalStop, IsGoalKeyStop}
use Rattle.candidate_rounds.specs.Table.Goals.{Via}
use Rattle.candidate_rounds.specs.Table.Normalized.{IsNormalized}
use Rattle.candidate_rounds.specs.Table.Normalizing.{IsProjection, goal_of_trait, rounds_shown}
use Rattle.candidate_rounds.specs.Table.Projected.{IsGivingNormalStop}
use Rattle.candidate_rounds.specs.Table.Running.{ComesFrom, IsRunStop, with_table}
use Rattle.rounds_judge.specs.Table.GoalTable.{GoalTable}
use Rattle.candidate_rounds.specs.declared.rounds.effort.Effort.{Effort}

-- Why a goal of a trait wasn't computed by a call that was given the first evaluator and left the last: it comes to the stop of a rule, or the
-- evaluator stopped of itself and accounts for it.
pub record IsGoalStop {E : Type 0} (v : Shown E) (first last : E) (g : TraitGoal) (s : Stop) : Type 0 where
  pub comes : is_evaluator_stop s ≡ false → IsTraitAnswer (v.judge (v.fixed first)) (v.context first) (v.state first) g (v.state last) (Stopped s)
  pub own : StopsOfItself v.fixed v.context v.state v.stops first last s

-- The environment and the arguments of the predicate are nodes of the evaluator's context, whose trees are the first of these; and the goal that the
-- predicate says.

abbrev pub IsThere : List Tree → Evaluator → ParamEnv → TraitPredicate → Type 0
IsThere ts r e p = Extends r.context.trees ts × IsParamEnv r.context.trees e × IsArgs r.context.trees p.trait_ref.args

abbrev pub goal_there : Evaluator → ParamEnv → TraitPredicate → TraitGoal
goal_there r e p = trait_goal r.context.trees e p

-- Why a step stopped that an evaluator began, and that left these trees and that table: something of the context wasn't made, or the evaluator
-- was asked something and accounts for its stop; the key of a goal of a trait wasn't made, a run of one stopped, or one wasn't computed; a list
-- wasn't made with its variables numbered anew; or a projection wasn't normalised, or what that says of it wasn't given. Goals, projections, responses and
-- lists are of the first evaluator's context. The trees of the last evaluator, which such a call left, are the first of these.
pub data IsStepStop (first : Evaluator) (ts : List Tree) (T : GoalTable Via) (s : Stop) : Type 0 where
  step_asking : (last : Evaluator) → Extends last.context.trees ts → StopsSomehow rounds_shown first last s → IsStepStop first ts T s
  step_key : (e : ParamEnv) (p : TraitPredicate) → IsThere ts first e p → IsGoalKeyStop ts (state first) (goal_there first e p) s → IsStepStop first ts T s
  step_run : (e : ParamEnv) (p : TraitPredicate) → IsThere ts first e p → IsRunStop ts first (goal_there first e p) T s → IsStepStop first ts T s
  step_computing : (e : ParamEnv) (p : TraitPredicate) (last : Evaluator) → IsThere ts first e p → Extends last.context.trees ts
      → IsGoalStop rounds_shown first last (goal_there first e p) s → IsStepStop first ts T s
  step_normalizing : (env : ParamEnv) (alias : AliasTy) (effort : Effort) → Extends first.context.trees ts → IsProjection first.context env alias → IsNormalized ts first env alias effort T (Err s) → IsStepStop first ts T s
  step_giving : (env : ParamEnv) (alias : AliasTy) (x : CanonicalResponse) → Extends first.context.trees ts → IsProjection first.context env alias → IsResponse first.context.trees x
      → IsGivingNormalStop ts (listing first) (state first) (goal_of_trait first.context env alias) (response_of first.context.trees x) s → IsStepStop first ts T s
  step_numbering : (xs : Args) → Extends first.context.trees ts → IsArgs first.context.trees xs → IsCanonicalStop ts (args_forest first.context.trees xs) s → IsStepStop first ts T s

-- It is the evaluator later on: what is declared and given is the same, by more trees; and its table comes by steps from the one that was there.
-- What is known, what is noted and the open probes may be others.
pub record IsLater (old new : Evaluator) : Type 0 where
  pub grows : Grows old.context new.context
  pub fixed_same : with_table (fixed new) [] ≡ with_table (fixed old) []
  pub table : ComesFrom old (table_of old) (table_of new)

-- A step stopped that began later.
pub record IsOverlapStop (old new : Evaluator) (s : Stop) : Type 0 where
  pub first : Evaluator
  pub later : IsLater old first
  pub step : IsStepStop first new.context.trees (table_of new) s

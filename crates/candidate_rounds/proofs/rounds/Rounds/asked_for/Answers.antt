use Rattle.std.proofs.Common.{◌≡◌, IfOk, ◌∙◌, subst}
use Rattle.ir_trees.specs.Syntax.Words.{clause_tree, env_forest}
use Rattle.candidate_assembly.specs.Goals.TraitGoals.{trait_goal}
use Rattle.candidate_eval.specs.Derivations.ImplRules.{TraitGoal}
use Rattle.candidate_eval.specs.Judges.States.{State}
use Rattle.candidate_rounds.specs.Evaluators.Known.{state}
use Rattle.candidate_rounds.specs.Evaluators.Stopping.{IsGoalKeyStop, IsKeyStop, of_saying}
use Rattle.candidate_rounds.specs.Table.Goals.{key_seen}
use Rattle.candidate_rounds.proofs.Table.Entering.{key-unmade}
use Rattle.candidate_rounds.proofs.Evaluators.Going.{goes-trans}
use Rattle.candidate_rounds.proofs.Stops.ResponseStops.{passed-on}
use Rattle.candidate_rounds.proofs.Stops.SettlingStops.{cause-then}
use Rattle.rounds_judge.specs.Table.Keys.{key_at, numbers_at}
use Rattle.candidate_rounds.proofs.rounds.Rounds.asked_for.Goals as goal

pub returns-in_err-goal-clause-cause : goal.returns-in_err-goal-clause-cause
returns-in_err-goal-clause-cause c =
    let r = c.args.self.now in
    let g = trait_goal r.context.trees c.args.param_env c.args.predicate in
    passed-on (IsGoalKeyStop c.goal_in.new.self.context.trees (state r) g) c.from_residual.result c.in_err-goal.field-0.0 c.from_residual.ensures.1 (of_saying c.in_err-goal.ensures.cause)

pub returns-clause-goes : goal.returns-clause-goes
returns-clause-goes c = goes-trans c.args.self.now c.goal_in.new.self c.key_of.new.self c.goal_in.ensures.goes c.key_of.ensures.goes

pub returns-clause-goals : goal.returns-clause-goals
returns-clause-goals c = c.key_of.ensures.goals ∙ c.goal_in.ensures.goals

pub returns-clause-state : goal.returns-clause-state
returns-clause-state c = c.key_of.ensures.state ∙ c.goal_in.ensures.state

pub returns-clause-key : goal.returns-clause-key
returns-clause-key c =
    let us = c.key_of.new.self.context.trees in
    let same = c.goal_in.ensures.state in
    let goal = c.in_ok-goal.ensures.goal in
    subst (λ (p : State × TraitGoal). IfOk c.key_of.result (λ a. key_seen us a.key ≡ key_at p.0 p.1)) (λ i. (same i, goal i)) c.key_of.ensures.key

pub returns-clause-numbers : goal.returns-clause-numbers
returns-clause-numbers c =
    let same = c.goal_in.ensures.state in
    let goal = c.in_ok-goal.ensures.goal in
    subst (λ (p : State × TraitGoal). IfOk c.key_of.result (λ a. a.numbers.items ≡ numbers_at p.0 p.1)) (λ i. (same i, goal i)) c.key_of.ensures.numbers

pub returns-clause-cause : goal.returns-clause-cause
returns-clause-cause c =
    let r = c.args.self.now in
    let mid = c.goal_in.new.self in
    let ts = c.key_of.new.self.context.trees in
    let g = trait_goal r.context.trees c.args.param_env c.args.predicate in
    let x = c.in_ok-goal.goal in
    let made = c.in_ok-goal.ensures in
    cause-then (IsGoalKeyStop ts (state r) g) (IsKeyStop ts (state mid) (env_forest mid.context.trees x.param_env) (clause_tree mid.context.trees x.predicate)) c.key_of.result c.key_of.ensures.cause
    (λ s k. key-unmade ts mid.context.trees (state r) (state mid) x g s made.sort made.goal c.goal_in.ensures.state k)

use Rattle.std.proofs.Common.{◌∙◌, ap, map, refl, slice_get, sym}
use Rattle.ir_trees.specs.Syntax.Words.{clause_tree, env_forest}
use Rattle.ir_trees.proofs.Growth.Kept.{grows-trans}
use Rattle.candidate_rounds.specs.Calls.Gathered.{open_entry}
use Rattle.candidate_rounds.specs.Table.Goals.{goal_seen}
use Rattle.candidate_rounds.specs.Evaluators.Known.{state_of}
use Rattle.candidate_rounds.specs.Evaluators.Stopping.{IsKeyStop, key_memory, of_noted}
use Rattle.candidate_rounds.proofs.Table.KeyGoals.{bare-noted, key-made, numbers-noted, resolved-seen, unnumbered-key}
use Rattle.candidate_rounds.proofs.Stops.ResponseStops.{passed-growth, passed-on}
use Rattle.candidate_rounds.proofs.rounds.keys.key_at.Goals as goal

pub returns-in_err-numbers-clause-cause : goal.returns-in_err-numbers-clause-cause
returns-in_err-numbers-clause-cause c = λ m.
    passed-on (IsKeyStop c.resolved_goal.new.cx.trees (state_of c.args.cx.now.trees m c.args.inference.now) (env_forest c.args.cx.now.trees c.args.goal.param_env) (clause_tree c.args.cx.now.trees c.args.goal.predicate))
    c.from_residual-in_err-numbers.result c.in_err-numbers.field-0.0 c.from_residual-in_err-numbers.ensures.1 (of_noted c.in_err-numbers.ensures.cause)

pub returns-in_err-variables-clause-cause : goal.returns-in_err-variables-clause-cause
returns-in_err-variables-clause-cause c = λ m.
    passed-growth _ c.from_residual-in_err-variables.result c.in_err-variables.field-0.0 c.from_residual-in_err-variables.ensures.1 c.in_err-variables.ensures.cause key_memory

pub returns-in_err-goal-2-clause-grows : goal.returns-in_err-goal-2-clause-grows
returns-in_err-goal-2-clause-grows c = grows-trans _ _ _ c.resolved_goal.ensures.grows c.numbered_goal.ensures.grows

pub returns-clause-grows : goal.returns-clause-grows
returns-clause-grows c = grows-trans _ _ _ c.resolved_goal.ensures.grows c.numbered_goal.ensures.grows

pub returns-in_err-goal-2-clause-cause : goal.returns-in_err-goal-2-clause-cause
returns-in_err-goal-2-clause-cause c = λ m.
    let S = state_of c.args.cx.now.trees m c.args.inference.now in
    let e = env_forest c.args.cx.now.trees c.args.goal.param_env in
    let t = clause_tree c.args.cx.now.trees c.args.goal.predicate in
    passed-on (IsKeyStop c.numbered_goal.new.cx.trees S e t) c.from_residual-in_err-goal-2.result c.in_err-goal-2.field-0.0 c.from_residual-in_err-goal-2.ensures.1
    (unnumbered-key c.numbered_goal.new.cx.trees S e t (goal_seen c.args.cx.now.trees c.args.goal) (goal_seen c.resolved_goal.new.cx.trees c.in_ok-goal.goal) c.as_slice-2.result.now
    (env_forest c.resolved_goal.new.cx.trees c.in_ok-goal.goal.param_env) (clause_tree c.resolved_goal.new.cx.trees c.in_ok-goal.goal.predicate) c.in_err-goal-2.field-0.0 refl
    (resolved-seen S c.args.cx.now.trees c.resolved_goal.new.cx.trees c.args.goal c.in_ok-goal.goal c.requires.goal.says (c.in_ok-goal.ensures.env m) (c.in_ok-goal.ensures.clause m))
    (c.as_slice-2.ensures.value ∙ c.in_ok-numbers.ensures.numbers) (c.in_ok-goal.ensures.env m) (c.in_ok-goal.ensures.clause m) c.in_err-goal-2.ensures.cause)

pub returns-clause-key : goal.returns-clause-key
returns-clause-key c = λ m.
    let S = state_of c.args.cx.now.trees m c.args.inference.now in
    key-made c.args.cx.now.trees m c.args.inference.now c.numbered_goal.new.cx.trees (record { goal = c.in_ok-goal-2.goal; variables = c.in_ok-variables.variables }) (goal_seen c.args.cx.now.trees c.args.goal) (goal_seen c.resolved_goal.new.cx.trees c.in_ok-goal.goal) c.as_slice-2.result.now
    (resolved-seen S c.args.cx.now.trees c.resolved_goal.new.cx.trees c.args.goal c.in_ok-goal.goal c.requires.goal.says (c.in_ok-goal.ensures.env m) (c.in_ok-goal.ensures.clause m))
    (c.as_slice-2.ensures.value ∙ c.in_ok-numbers.ensures.numbers) c.in_ok-goal-2.ensures.goal
    (c.in_ok-variables.ensures.variables ∙ ap (map (λ n. open_entry (slice_get c.args.inference.now.variables n))) (c.as_slice.ensures.value ∙ sym c.as_slice-2.ensures.value))

pub returns-clause-numbers : goal.returns-clause-numbers
returns-clause-numbers c = λ m.
    let S = state_of c.args.cx.now.trees m c.args.inference.now in
    numbers-noted S (goal_seen c.args.cx.now.trees c.args.goal) (goal_seen c.resolved_goal.new.cx.trees c.in_ok-goal.goal) c.in_ok-numbers.numbers.items
    (resolved-seen S c.args.cx.now.trees c.resolved_goal.new.cx.trees c.args.goal c.in_ok-goal.goal c.requires.goal.says (c.in_ok-goal.ensures.env m) (c.in_ok-goal.ensures.clause m)) c.in_ok-numbers.ensures.numbers

pub returns-clause-bare : goal.returns-clause-bare
returns-clause-bare c = λ m.
    let S = state_of c.args.cx.now.trees m c.args.inference.now in
    bare-noted S (goal_seen c.args.cx.now.trees c.args.goal) (goal_seen c.resolved_goal.new.cx.trees c.in_ok-goal.goal) c.in_ok-numbers.numbers.items
    (resolved-seen S c.args.cx.now.trees c.resolved_goal.new.cx.trees c.args.goal c.in_ok-goal.goal c.requires.goal.says (c.in_ok-goal.ensures.env m) (c.in_ok-goal.ensures.clause m)) c.in_ok-numbers.ensures.bare

use Rattle.std.proofs.Common.{◌∙◌, ap, refl, subst, sym}
use Rattle.ir_trees.specs.Syntax.Trees.{Tree}
use Rattle.ir_trees.specs.Syntax.Words.{clause_tree, env_forest}
use Rattle.ir_trees.proofs.Growth.Kept.{grows-trans}
use Rattle.rounds_judge.specs.Obligations.Responding.{renumbered, renumbered_tree}
use Rattle.candidate_rounds.specs.Table.Goals.{SaysTrait, goal_seen}
use Rattle.candidate_rounds.specs.Evaluators.Stopping.{IsNumberedStop, of_numbered_env}
use Rattle.candidate_rounds.proofs.Table.KeyGoals.{changed-says, clause-unnumbered-anew, goal-made, none-numbered, renumbered-clause, renumbered-seen}
use Rattle.candidate_rounds.proofs.Snapshots.Knowing.{clause-stays, is-clause-stays, tree-stays}
use Rattle.candidate_rounds.proofs.Stops.ResponseStops.{passed-on}
use Rattle.candidate_rounds.proofs.rounds.keys.numbered_goal.Goals as goal

pub returns-then-is_empty-clause-goal : goal.returns-then-is_empty-clause-goal
returns-then-is_empty-clause-goal c = none-numbered c.args.numbers.now (goal_seen c.args.cx.now.trees c.args.goal) (sym c.is_empty.ensures ∙ c.if-is_empty.true) c.requires.all

pub returns-in_err-param_env-clause-cause : goal.returns-in_err-param_env-clause-cause
returns-in_err-param_env-clause-cause c =
    passed-on (IsNumberedStop c.renumbered.new.cx.trees c.args.numbers.now (env_forest c.args.cx.now.trees c.args.goal.param_env) (clause_tree c.args.cx.now.trees c.args.goal.predicate))
    c.from_residual.result c.in_err-param_env.field-0.0 c.from_residual.ensures.1 (of_numbered_env c.in_err-param_env.ensures.cause)

pub renumbered-requires-2 : goal.renumbered-requires-2
renumbered-requires-2 c = is-clause-stays c.args.cx.now.trees c.renumbered.new.cx.trees c.args.goal.predicate c.renumbered.ensures.grows.kept c.requires.goal.goal.1

pub returns-in_err-predicate-clause-grows : goal.returns-in_err-predicate-clause-grows
returns-in_err-predicate-clause-grows c = grows-trans _ _ _ c.renumbered.ensures.grows c.renumbered-2.ensures.grows

pub returns-in_err-predicate-clause-cause : goal.returns-in_err-predicate-clause-cause
returns-in_err-predicate-clause-cause c =
    passed-on (IsNumberedStop c.renumbered-2.new.cx.trees c.args.numbers.now (env_forest c.args.cx.now.trees c.args.goal.param_env) (clause_tree c.args.cx.now.trees c.args.goal.predicate))
    c.from_residual-in_err-predicate.result c.in_err-predicate.field-0.0 c.from_residual-in_err-predicate.ensures.1
    (clause-unnumbered-anew c.args.cx.now c.renumbered.new.cx c.args.goal.predicate c.renumbered-2.new.cx.trees c.args.numbers.now (env_forest c.args.cx.now.trees c.args.goal.param_env)
    c.in_err-predicate.field-0.0 c.renumbered.ensures.grows c.requires.goal.goal.1 c.in_err-predicate.ensures.cause)

pub returns-clause-grows : goal.returns-clause-grows
returns-clause-grows c = grows-trans _ _ _ c.renumbered.ensures.grows c.renumbered-2.ensures.grows

pub returns-clause-sort : goal.returns-clause-sort
returns-clause-sort c =
    let t = clause_tree c.args.cx.now.trees c.args.goal.predicate in
    let ns = c.args.numbers.now in
    let p = ap (renumbered_tree ns) (clause-stays c.args.cx.now.trees c.renumbered.new.cx.trees c.args.goal.predicate c.renumbered.ensures.grows.kept c.requires.goal.goal.1) in
    goal-made c.renumbered.new.cx c.renumbered-2.new.cx _ c.renumbered-2.ensures.grows c.in_ok-param_env.ensures.sort c.in_ok-predicate.ensures.sort
    (subst SaysTrait (sym (c.in_ok-predicate.ensures.tree ∙ p)) (changed-says (renumbered ns) t (renumbered_tree ns t) c.requires.goal.says (renumbered-clause ns t c.requires.goal.says)))

pub returns-clause-goal : goal.returns-clause-goal
returns-clause-goal c =
    let ns = c.args.numbers.now in
    renumbered-seen ns c.args.cx.now.trees c.renumbered-2.new.cx.trees c.args.goal _ c.requires.goal.says
    (ap (λ (t : Tree). t.children) (tree-stays c.renumbered.new.cx.trees c.renumbered-2.new.cx.trees c.in_ok-param_env.param_env.0 _ c.renumbered-2.ensures.grows.kept refl c.in_ok-param_env.ensures.sort)
    ∙ c.in_ok-param_env.ensures.list refl)
    (c.in_ok-predicate.ensures.tree ∙ ap (renumbered_tree ns) (clause-stays c.args.cx.now.trees c.renumbered.new.cx.trees c.args.goal.predicate c.renumbered.ensures.grows.kept c.requires.goal.goal.1))

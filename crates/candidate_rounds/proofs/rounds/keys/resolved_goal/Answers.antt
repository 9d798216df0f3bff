use Rattle.std.proofs.Common.{◌∙◌, ap, refl, subst, sym}
use Rattle.ir_trees.specs.Syntax.Trees.{Tree}
use Rattle.ir_trees.specs.Syntax.Words.{clause_tree, env_forest}
use Rattle.ir_trees.proofs.Growth.Kept.{grows-trans}
use Rattle.candidate_eval.specs.declared.eval.mode.TypingMode.TheVariants.{PostAnalysis}
use Rattle.candidate_eval.specs.Judges.States.{resolved, resolved_tree}
use Rattle.candidate_rounds.specs.Table.Goals.{SaysTrait}
use Rattle.candidate_rounds.specs.Evaluators.Known.{state_of}
use Rattle.candidate_rounds.specs.Evaluators.Stopping.{IsKeyStop, of_env}
use Rattle.candidate_rounds.proofs.Table.KeyGoals.{changed-says, clause-unresolved, goal-made, put-in, resolved-clause}
use Rattle.candidate_rounds.proofs.Snapshots.Knowing.{is-clause-stays, kinds-grown, known-stays, tree-stays}
use Rattle.candidate_rounds.proofs.Stops.ResponseStops.{passed-on}
use Rattle.candidate_rounds.proofs.rounds.keys.resolved_goal.Goals as goal

pub returns-in_err-param_env-clause-cause : goal.returns-in_err-param_env-clause-cause
returns-in_err-param_env-clause-cause c = λ m.
    passed-on (IsKeyStop c.resolved.new.cx.trees (state_of c.args.cx.now.trees m c.args.inference.now) (env_forest c.args.cx.now.trees c.args.goal.param_env) (clause_tree c.args.cx.now.trees c.args.goal.predicate))
    c.from_residual.result c.in_err-param_env.field-0.0 c.from_residual.ensures.1 (of_env (c.in_err-param_env.ensures.cause m))

pub resolved-requires-2-clause-value : goal.resolved-requires-2-clause-value
resolved-requires-2-clause-value c = is-clause-stays c.args.cx.now.trees c.resolved.new.cx.trees c.args.goal.predicate c.resolved.ensures.grows.kept c.requires.goal.goal.1

pub resolved-requires-2-clause-known : goal.resolved-requires-2-clause-known
resolved-requires-2-clause-known c = known-stays c.args.cx.now.trees c.resolved.new.cx.trees c.args.inference.now c.resolved.ensures.grows.kept c.requires.known

pub resolved-requires-2-clause-kinds : goal.resolved-requires-2-clause-kinds
resolved-requires-2-clause-kinds c = kinds-grown c.args.cx.now.trees c.resolved.new.cx.trees c.args.inference.now.variables c.resolved.ensures.grows.kept c.requires.known.values c.requires.kinds

pub returns-in_err-predicate-clause-grows : goal.returns-in_err-predicate-clause-grows
returns-in_err-predicate-clause-grows c = grows-trans _ _ _ c.resolved.ensures.grows c.resolved-2.ensures.grows

pub returns-in_err-predicate-clause-cause : goal.returns-in_err-predicate-clause-cause
returns-in_err-predicate-clause-cause c = λ m.
    passed-on (IsKeyStop c.resolved-2.new.cx.trees (state_of c.args.cx.now.trees m c.args.inference.now) (env_forest c.args.cx.now.trees c.args.goal.param_env) (clause_tree c.args.cx.now.trees c.args.goal.predicate))
    c.from_residual-in_err-predicate.result c.in_err-predicate.field-0.0 c.from_residual-in_err-predicate.ensures.1
    (clause-unresolved m c.args.inference.now c.args.cx.now c.resolved.new.cx c.args.goal.predicate c.requires.known c.resolved.ensures.grows c.requires.goal.goal.1 c.resolved-2.new.cx.trees
    (env_forest c.args.cx.now.trees c.args.goal.param_env) c.in_err-predicate.field-0.0 (c.in_err-predicate.ensures.cause m))

pub returns-clause-grows : goal.returns-clause-grows
returns-clause-grows c = grows-trans _ _ _ c.resolved.ensures.grows c.resolved-2.ensures.grows

pub returns-clause-sort : goal.returns-clause-sort
returns-clause-sort c =
    let S = state_of c.args.cx.now.trees PostAnalysis c.args.inference.now in
    let t = clause_tree c.args.cx.now.trees c.args.goal.predicate in
    let p = put-in PostAnalysis c.args.inference.now c.args.cx.now c.resolved.new.cx c.args.goal.predicate c.requires.known c.resolved.ensures.grows c.requires.goal.goal.1 in
    goal-made c.resolved.new.cx c.resolved-2.new.cx _ c.resolved-2.ensures.grows c.in_ok-param_env.ensures.sort c.in_ok-predicate.ensures.sort
    (subst SaysTrait (sym (c.in_ok-predicate.ensures.tree PostAnalysis ∙ p)) (changed-says (resolved S) t (resolved_tree S t) c.requires.goal.says (resolved-clause S t c.requires.goal.says)))

pub returns-clause-env : goal.returns-clause-env
returns-clause-env c = λ m.
    ap (λ (t : Tree). t.children) (tree-stays c.resolved.new.cx.trees c.resolved-2.new.cx.trees c.in_ok-param_env.param_env.0 _ c.resolved-2.ensures.grows.kept refl c.in_ok-param_env.ensures.sort)
    ∙ c.in_ok-param_env.ensures.list refl m

pub returns-clause-clause : goal.returns-clause-clause
returns-clause-clause c = λ m.
    c.in_ok-predicate.ensures.tree m ∙ put-in m c.args.inference.now c.args.cx.now c.resolved.new.cx c.args.goal.predicate c.requires.known c.resolved.ensures.grows c.requires.goal.goal.1

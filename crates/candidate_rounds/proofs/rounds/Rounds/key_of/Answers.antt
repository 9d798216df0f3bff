use Rattle.std.proofs.Common.{◌≡◌, true, reverse, IfOk, ◌∙◌, ap, subst}
use Rattle.std.specs.Prelude.{IfErr}
use Rattle.ir_trees.specs.Syntax.Words.{clause_tree, env_forest}
use Rattle.candidate_eval.specs.Judges.States.{resolved}
use Rattle.rounds_judge.specs.Table.Keys.{goal_trees, key_at, numbers_at}
use Rattle.rounds_judge.specs.Table.TableSettling.{are_bare}
use Rattle.candidate_rounds.specs.Table.Goals.{goal_seen, key_seen}
use Rattle.candidate_rounds.specs.Evaluators.Known.{Evaluator, GoesOn, state}
use Rattle.candidate_rounds.specs.Evaluators.Stopping.{IsKeyStop}
use Rattle.candidate_rounds.proofs.Evaluators.Between.{parts}
use Rattle.candidate_rounds.proofs.Evaluators.Going.{goes-context}
use Rattle.candidate_rounds.proofs.Snapshots.Holding.{kinds-now}
use Rattle.candidate_rounds.proofs.Snapshots.Knowing.{state-stays}
use Rattle.candidate_rounds.proofs.Snapshots.ResolvedValues.{evaluator-grown}
use Rattle.candidate_rounds.proofs.rounds.Rounds.key_of.Goals as goal

pub key_at-requires-clause-known : goal.key_at-requires-clause-known
key_at-requires-clause-known c = (parts c.self.invariant).consistent.known

pub key_at-requires-clause-kinds : goal.key_at-requires-clause-kinds
key_at-requires-clause-kinds c = kinds-now c.self.inside.cx.trees c.self.inside.inference (reverse c.self.inside.probes.items) (parts c.self.invariant).consistent

pub invariant_of-self : goal.invariant_of-self
invariant_of-self c =
    let i = c.self.inside in
    evaluator-grown i.cx c.key_at.new.cx i.inference (reverse i.probes.items) (record { pairs = i.normal.items; is_open = i.opens }) i.opaques.items i.goals c.key_at.ensures.grows c.self.invariant

pub returns-clause-goes : goal.returns-clause-goes
returns-clause-goes c =
    let i = c.self.inside in
    let v : Evaluator = record { context = i.cx; mode = i.mode; normal = record { pairs = i.normal.items; is_open = i.opens }; opaques = i.opaques.items; goals = i.goals; inference = i.inference; marks = reverse i.probes.items } in
    subst (λ (e : Evaluator). GoesOn e (record v { context = c.key_at.new.cx })) c.self.view_is (goes-context v c.key_at.new.cx c.key_at.ensures.grows c.key_at.ensures.faults)

pub returns-clause-state : goal.returns-clause-state
returns-clause-state c =
    let i = c.self.inside in
    state-stays i.cx.trees c.key_at.new.cx.trees i.mode i.inference c.key_at.ensures.grows.kept (parts c.self.invariant).consistent.known ∙ ap state c.self.view_is

pub returns-clause-key : goal.returns-clause-key
returns-clause-key c =
    subst (λ (e : Evaluator). IfOk c.key_at.result (λ a. key_seen c.key_at.new.cx.trees a.key ≡ key_at (state e) (goal_seen e.context.trees c.args.goal))) c.self.view_is (c.key_at.ensures.key c.self.inside.mode)

pub returns-clause-numbers : goal.returns-clause-numbers
returns-clause-numbers c =
    subst (λ (e : Evaluator). IfOk c.key_at.result (λ a. a.numbers.items ≡ numbers_at (state e) (goal_seen e.context.trees c.args.goal))) c.self.view_is (c.key_at.ensures.numbers c.self.inside.mode)

pub returns-clause-bare : goal.returns-clause-bare
returns-clause-bare c =
    subst (λ (e : Evaluator). IfOk c.key_at.result (λ _. are_bare (resolved (state e) (goal_trees (goal_seen e.context.trees c.args.goal))) ≡ true)) c.self.view_is (c.key_at.ensures.bare c.self.inside.mode)

pub returns-clause-cause : goal.returns-clause-cause
returns-clause-cause c =
    subst (λ (e : Evaluator). IfErr c.key_at.result (λ s. IsKeyStop c.key_at.new.cx.trees (state e) (env_forest e.context.trees c.args.goal.param_env) (clause_tree e.context.trees c.args.goal.predicate) s)) c.self.view_is
    (c.key_at.ensures.cause c.self.inside.mode)

use Rattle.std.proofs.Common.{sym, ◌∙◌}
use Rattle.std.proofs.lemmas.Result.{err_from_is_err_and}
use Rattle.candidate_eval.specs.Interface.Evaluators.{IsGoal, pendings_of}
use Rattle.candidate_rounds.specs.Evaluators.Stopping.{AreGoalsStop, held}
use Rattle.candidate_rounds.specs.Evaluators.Known.{reads, state}
use Rattle.candidate_rounds.proofs.Obligations.Evaluating.{Sourced, all-tried, goal-kept, try-refused}
use Rattle.candidate_rounds.proofs.Obligations.Gathering.{each-index}
use Rattle.candidate_rounds.proofs.Evaluators.Going.{goes-refl, goes-trans}
use Rattle.candidate_rounds.proofs.Stops.SettlingStops.{begin-tries, goal-stops, growth-becomes, growth-stops, one-more-goal, refusal-passed}
use Rattle.candidate_rounds.proofs.Evaluators.Exits.{not-refused}
use Rattle.candidate_rounds.proofs.rounds.Rounds.try_goals.Goals as goal

pub try_goal-requires : goal.try_goal-requires
try_goal-requires c =
    goal-kept c.args.self.now.context c.loop-i.self.context _ c.loop-i.invariant.tries.goes.0
    (each-index (λ (g : Sourced). IsGoal c.args.self.now.context.trees g.1) c.args.goals.now c.loop-i.i _ c.requires c.loop-i-test.true)

pub returns-in_err-left-clause-goes : goal.returns-in_err-left-clause-goes
returns-in_err-left-clause-goes c = goes-trans c.args.self.now c.loop-i.self c.try_goal.new.self c.loop-i.invariant.tries.goes c.try_goal.ensures.goes

pub returns-in_err-left-clause-refused : goal.returns-in_err-left-clause-refused
returns-in_err-left-clause-refused c =
    let r = err_from_is_err_and c.from_residual.result c.from_residual.ensures.1 in
    rw r.1
    (λ n. try-refused c.args.self.now c.loop-i.self c.try_goal.new.self c.args.goals.now c.loop-i.i _ c.loop-i.staying.items c.recall_well_kept.ensures c.requires c.loop-i.invariant.tries c.loop-i-test.true
    (each-index (λ (g : Sourced). IsGoal c.args.self.now.context.trees g.1) c.args.goals.now c.loop-i.i _ c.requires c.loop-i-test.true)
    (c.in_err-left.ensures.refused (sym r.2 ∙ n)))

pub returns-in_err-push_some-clause-goes : goal.returns-in_err-push_some-clause-goes
returns-in_err-push_some-clause-goes c = goes-trans c.args.self.now c.loop-i.self c.try_goal.new.self c.loop-i.invariant.tries.goes c.try_goal.ensures.goes

pub loop-i-preserved : goal.loop-i-preserved
loop-i-preserved c =
    one-more-goal c.args.self.now c.loop-i.self c.try_goal.new.self c.args.goals.now c.loop-i.i _ c.loop-i.staying.items c.recall_well_kept.ensures c.requires c.loop-i.invariant c.loop-i-test.true
    (each-index (λ (g : Sourced). IsGoal c.args.self.now.context.trees g.1) c.args.goals.now c.loop-i.i _ c.requires c.loop-i-test.true)
    c.in_ok-left.left c.push_some.new.list.items c.try_goal.ensures.goes c.in_ok-left.ensures.sort c.in_ok-left.ensures.ok c.in_ok-push_some.ensures.pushed

pub returns-in_err-left-clause-cause : goal.returns-in_err-left-clause-cause
returns-in_err-left-clause-cause c =
    let old = c.args.self.now in
    let now = c.loop-i.self in
    let h = held c.try_goal.new.self in
    refusal-passed (λ s. AreGoalsStop h (reads old) s (state old) (pendings_of old.context.trees c.args.goals.now)) _ c.from_residual.result c.in_err-left.field-0.0 c.from_residual.ensures.1 c.in_err-left.ensures.cause
    (λ s k. goal-stops old now c.try_goal.new.self c.args.goals.now c.loop-i.i _ c.loop-i.staying.items c.recall_well_kept.ensures c.requires c.loop-i.invariant c.loop-i-test.true
    (each-index (λ (g : Sourced). IsGoal c.args.self.now.context.trees g.1) c.args.goals.now c.loop-i.i _ c.requires c.loop-i-test.true) h s k)

pub returns-in_err-push_some-clause-cause : goal.returns-in_err-push_some-clause-cause
returns-in_err-push_some-clause-cause c =
    let old = c.args.self.now in
    let h = held c.try_goal.new.self in
    growth-becomes (λ s. AreGoalsStop h (reads old) s (state old) (pendings_of old.context.trees c.args.goals.now)) c.from_residual-in_err-push_some.result c.in_err-push_some.field-0.0
    c.from_residual-in_err-push_some.ensures.1 c.in_err-push_some.ensures.cause
    (growth-stops old c.loop-i.self c.args.goals.now c.loop-i.i c.loop-i.staying.items c.loop-i.invariant c.loop-i-test.true h)

pub returns-clause-ok : goal.returns-clause-ok
returns-clause-ok c = all-tried c.args.self.now c.loop-i.self c.args.goals.now c.loop-i.i c.loop-i.staying.items c.loop-i.invariant.tries c.loop-i-test.false

pub loop-i-init : goal.loop-i-init
loop-i-init c = begin-tries c.args.self.now c.args.goals.now _ c.new-staying.ensures.items (goes-refl c.args.self.now)

pub returns-in_err-push_some-clause-refused : goal.returns-in_err-push_some-clause-refused
returns-in_err-push_some-clause-refused c = not-refused _ c.from_residual-in_err-push_some.result _ c.from_residual-in_err-push_some.ensures.1

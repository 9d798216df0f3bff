use Rattle.std.proofs.Common.{IfErr, ap, reverse, subst, ◌∙◌}
use Rattle.candidate_assembly.specs.Goals.TraitGoals.{trait_goal}
use Rattle.candidate_rounds.specs.Evaluators.Known.{Evaluator, state}
use Rattle.candidate_rounds.specs.Evaluators.Stopping.{IsTreeStop, clause_saying}
use Rattle.candidate_rounds.proofs.Snapshots.Knowing.{state-stays}
use Rattle.candidate_rounds.proofs.Snapshots.ResolvedValues.{evaluator-grown}
use Rattle.candidate_rounds.proofs.Evaluators.Between.{parts}
use Rattle.candidate_rounds.proofs.rounds.Rounds.goal_in.Goals as goal

pub invariant_of-self : goal.invariant_of-self
invariant_of-self c =
    let i = c.self.inside in
    evaluator-grown i.cx c.goal_in.new.cx i.inference (reverse i.probes.items) (record { pairs = i.normal.items; is_open = i.opens }) i.opaques.items i.goals c.goal_in.ensures.grows c.self.invariant

pub returns-clause-state : goal.returns-clause-state
returns-clause-state c =
    let i = c.self.inside in
    state-stays i.cx.trees c.goal_in.new.cx.trees i.mode i.inference c.goal_in.ensures.grows.kept (parts c.self.invariant).consistent.known ∙ ap state c.self.view_is

pub returns-clause-cause : goal.returns-clause-cause
returns-clause-cause c =
    subst (λ (e : Evaluator). IfErr c.goal_in.result (λ s. IsTreeStop c.goal_in.new.cx.trees (clause_saying (trait_goal e.context.trees c.args.param_env c.args.predicate)) s)) c.self.view_is c.goal_in.ensures.cause

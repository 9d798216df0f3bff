use Rattle.std.proofs.Common.{◌≡◌, ◌∙◌, sym, ap}
use Rattle.candidate_assembly.proofs.Calls.Causes.{so-err, so-ok}
use Rattle.candidate_assembly.proofs.Calls.Keeping.{trait-goal-kept}
use Rattle.candidate_assembly.specs.Goals.TraitGoals.{trait_goal}
use Rattle.candidate_rounds.specs.Evaluators.Known.{state}
use Rattle.candidate_rounds.specs.Evaluators.Stopping.{of_key_then, of_noted}
use Rattle.candidate_rounds.proofs.Table.Asked.{may-be-asked}
use Rattle.candidate_rounds.proofs.Table.Rounding.{goes-stays}
use Rattle.rounds_judge.specs.Table.GoalTable.{may_be_asked}
use Rattle.rounds_judge.specs.Table.Keys.{key_at}
use Rattle.candidate_rounds.proofs.rounds.Rounds.may_be_run.Goals as goal

pub returns-in_err-key-clause-stays : goal.returns-in_err-key-clause-stays
returns-in_err-key-clause-stays c = (goes-stays c.args.self.now c.key_for.new.self c.recall_well_kept.ensures c.key_for.ensures.goes c.key_for.ensures.state).0

pub returns-in_err-key-clause-table : goal.returns-in_err-key-clause-table
returns-in_err-key-clause-table c = (goes-stays c.args.self.now c.key_for.new.self c.recall_well_kept.ensures c.key_for.ensures.goes c.key_for.ensures.state).1

pub returns-in_err-key-clause-goal : goal.returns-in_err-key-clause-goal
returns-in_err-key-clause-goal c = (trait-goal-kept _ _ _ _ (goes-stays c.args.self.now c.key_for.new.self c.recall_well_kept.ensures c.key_for.ensures.goes c.key_for.ensures.state).0.grows c.requires).0

pub returns-clause-stays : goal.returns-clause-stays
returns-clause-stays c = (goes-stays c.args.self.now c.key_for.new.self c.recall_well_kept.ensures c.key_for.ensures.goes c.key_for.ensures.state).0

pub returns-clause-table : goal.returns-clause-table
returns-clause-table c = (goes-stays c.args.self.now c.key_for.new.self c.recall_well_kept.ensures c.key_for.ensures.goes c.key_for.ensures.state).1

pub returns-clause-goal : goal.returns-clause-goal
returns-clause-goal c = (trait-goal-kept _ _ _ _ (goes-stays c.args.self.now c.key_for.new.self c.recall_well_kept.ensures c.key_for.ensures.goes c.key_for.ensures.state).0.grows c.requires).0

pub returns-clause-is : goal.returns-clause-is
returns-clause-is c =
    let old = c.args.self.now in
    let new = c.key_for.new.self in
    let grows = (goes-stays old new c.recall_well_kept.ensures c.key_for.ensures.goes c.key_for.ensures.state).0.grows in
    let same = (trait-goal-kept old.context new.context c.args.param_env c.args.predicate grows c.requires).1 in
    let now : key_at (state old) (trait_goal old.context.trees c.args.param_env c.args.predicate) ≡ key_at (state new) (trait_goal new.context.trees c.args.param_env c.args.predicate)
    = ap (key_at (state old)) (sym same) ∙ ap (λ S. key_at S (trait_goal new.context.trees c.args.param_env c.args.predicate)) (sym c.key_for.ensures.state) in
    so-ok c.may_be_asked.result (λ b is. is ∙ ap may_be_asked (c.in_ok-key.ensures.key ∙ now)) c.may_be_asked.ensures.is

pub returns-clause-standing : goal.returns-clause-standing
returns-clause-standing c = λ stands.
    let old = c.args.self.now in
    so-ok c.may_be_asked.result (λ b is. is ∙ (ap may_be_asked c.in_ok-key.ensures.key ∙ may-be-asked (state old) (trait_goal old.context.trees c.args.param_env c.args.predicate) stands)) c.may_be_asked.ensures.is

pub returns-clause-cause : goal.returns-clause-cause
returns-clause-cause c = so-err c.may_be_asked.result (λ s k. of_key_then (of_noted k)) c.may_be_asked.ensures.cause

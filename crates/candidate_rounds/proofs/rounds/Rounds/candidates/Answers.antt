use Rattle.std.proofs.Common.{◌∙◌}
use Rattle.candidate_eval.specs.Outcomes.ResponseTrees.{candidates_of}
use Rattle.candidate_rounds.specs.Evaluators.Known.{table_of}
use Rattle.candidate_assembly.proofs.Calls.Causes.{so-ok, so-err}
use Rattle.candidate_rounds.proofs.Table.Rounding.{goes-stays}
use Rattle.candidate_rounds.proofs.Table.Running.{stays-trans}
use Rattle.candidate_rounds.proofs.Table.Steps.{listed-before}
use Rattle.candidate_rounds.specs.Table.StepStops.{IsGoalListStop, list_key, list_key_then}
use Rattle.candidate_rounds.proofs.Table.StepStops.{key-list-before}
use Rattle.candidate_rounds.proofs.Stops.ResponseStops.{passed-on}
use Rattle.candidate_assembly.specs.Goals.TraitGoals.{trait_goal}
use Rattle.candidate_rounds.proofs.rounds.Rounds.candidates.Goals as goal

pub returns-in_err-key-clause-stays : goal.returns-in_err-key-clause-stays
returns-in_err-key-clause-stays c = (goes-stays c.args.self.now c.key_for.new.self c.recall_well_kept.ensures c.key_for.ensures.goes c.key_for.ensures.state).0

pub returns-in_err-key-clause-table : goal.returns-in_err-key-clause-table
returns-in_err-key-clause-table c = (goes-stays c.args.self.now c.key_for.new.self c.recall_well_kept.ensures c.key_for.ensures.goes c.key_for.ensures.state).1

pub returns-clause-stays : goal.returns-clause-stays
returns-clause-stays c = stays-trans (goes-stays c.args.self.now c.key_for.new.self c.recall_well_kept.ensures c.key_for.ensures.goes c.key_for.ensures.state).0 c.candidates_for.ensures.stays

pub returns-clause-table : goal.returns-clause-table
returns-clause-table c = c.candidates_for.ensures.table ∙ (goes-stays c.args.self.now c.key_for.new.self c.recall_well_kept.ensures c.key_for.ensures.goes c.key_for.ensures.state).1

pub returns-clause-listed : goal.returns-clause-listed
returns-clause-listed c =
    let r = c.args.self.now in
    let s = c.key_for.new.self in
    let goes = goes-stays r s c.recall_well_kept.ensures c.key_for.ensures.goes c.key_for.ensures.state in
    so-ok c.candidates_for.result (λ v h. listed-before r s goes.0 (table_of s) (table_of r) goes.1 _ _ c.in_ok-key.ensures.key (candidates_of c.candidates_for.new.self.context.trees v.items) h) c.candidates_for.ensures.listed

pub returns-in_err-key-clause-cause : goal.returns-in_err-key-clause-cause
returns-in_err-key-clause-cause c =
    let r = c.args.self.now in
    let g = trait_goal r.context.trees c.args.param_env c.args.predicate in
    passed-on (IsGoalListStop c.key_for.new.self.context.trees r g) c.from_residual.result c.in_err-key.field-0.0 c.from_residual.ensures.1 (list_key c.in_err-key.ensures.cause)

pub returns-clause-cause : goal.returns-clause-cause
returns-clause-cause c =
    let goes = goes-stays c.args.self.now c.key_for.new.self c.recall_well_kept.ensures c.key_for.ensures.goes c.key_for.ensures.state in
    so-err c.candidates_for.result (λ e h. list_key_then (key-list-before goes.0 goes.1 c.in_ok-key.ensures.key h)) c.candidates_for.ensures.cause

use Rattle.std.proofs.Common.{◌≡◌, false, ◌∙◌, ap, subst}
use Rattle.candidate_assembly.specs.Goals.TraitGoals.{trait_goal}
use Rattle.candidate_rounds.specs.Evaluators.Known.{table_of}
use Rattle.candidate_rounds.specs.Table.Goals.{key_seen}
use Rattle.candidate_rounds.specs.Table.Running.{IsEnteringStop, entering_key}
use Rattle.candidate_rounds.proofs.Stops.ResponseStops.{passed-on}
use Rattle.candidate_rounds.proofs.Table.Finding.{only-place}
use Rattle.candidate_rounds.proofs.Table.Rounding.{entered-cause, entered-place, entered-stays, entered-table, err-table, goes-stays, ok-place, ok-table, then-err, there-already}
use Rattle.candidate_rounds.proofs.Table.Running.{stays-trans}
use Rattle.rounds_judge.specs.Table.GoalTable.{is_entered}
use Rattle.candidate_rounds.proofs.rounds.Rounds.enter_goal.Goals as goal

pub returns-in_err-key-clause-stays : goal.returns-in_err-key-clause-stays
returns-in_err-key-clause-stays c = (goes-stays c.args.self.now c.key_for.new.self c.recall_well_kept.ensures c.key_for.ensures.goes c.key_for.ensures.state).0

pub returns-in_err-key-clause-stopped : goal.returns-in_err-key-clause-stopped
returns-in_err-key-clause-stopped c = err-table c.from_residual.result (goes-stays c.args.self.now c.key_for.new.self c.recall_well_kept.ensures c.key_for.ensures.goes c.key_for.ensures.state).1

pub returns-in_err-key-clause-cause : goal.returns-in_err-key-clause-cause
returns-in_err-key-clause-cause c =
    let new = c.key_for.new.self in
    passed-on (IsEnteringStop new.context.trees c.args.self.now (trait_goal c.args.self.now.context.trees c.args.param_env c.args.predicate) (table_of new)) c.from_residual.result c.in_err-key.field-0.0 c.from_residual.ensures.1 (entering_key c.in_err-key.ensures.cause)

pub returns-in-Some-clause-stays : goal.returns-in-Some-clause-stays
returns-in-Some-clause-stays c = (goes-stays c.args.self.now c.key_for.new.self c.recall_well_kept.ensures c.key_for.ensures.goes c.key_for.ensures.state).0

pub returns-in-Some-clause-entered : goal.returns-in-Some-clause-entered
returns-in-Some-clause-entered c =
    let g = goes-stays c.args.self.now c.key_for.new.self c.recall_well_kept.ensures c.key_for.ensures.goes c.key_for.ensures.state in
    (there-already c.args.self.now c.key_for.new.self c.in_ok-key.key _ g.1 c.in_ok-key.ensures.key c.in-Some.place (only-place (table_of c.key_for.new.self) (key_seen c.key_for.new.self.context.trees c.in_ok-key.key) c.in-Some.place c.in-Some.ensures)).0

pub returns-in-Some-clause-place : goal.returns-in-Some-clause-place
returns-in-Some-clause-place c =
    let g = goes-stays c.args.self.now c.key_for.new.self c.recall_well_kept.ensures c.key_for.ensures.goes c.key_for.ensures.state in
    (there-already c.args.self.now c.key_for.new.self c.in_ok-key.key _ g.1 c.in_ok-key.ensures.key c.in-Some.place (only-place (table_of c.key_for.new.self) (key_seen c.key_for.new.self.context.trees c.in_ok-key.key) c.in-Some.place c.in-Some.ensures)).1

pub returns-clause-stays : goal.returns-clause-stays
returns-clause-stays c =
    let g = goes-stays c.args.self.now c.key_for.new.self c.recall_well_kept.ensures c.key_for.ensures.goes c.key_for.ensures.state in
    stays-trans g.0 (entered-stays c.key_for.new.self c.enter_key.new.self _ c.enter_key.result c.enter_key.ensures.entered c.enter_key.ensures.stopped)

pub returns-clause-entered : goal.returns-clause-entered
returns-clause-entered c =
    let g = goes-stays c.args.self.now c.key_for.new.self c.recall_well_kept.ensures c.key_for.ensures.goes c.key_for.ensures.state in
    ok-table c.enter_key.result (entered-table c.args.self.now c.key_for.new.self c.in_ok-key.key _ g.1 c.in_ok-key.ensures.key c.enter_key.new.self c.in_default.ensures) c.enter_key.ensures.entered

pub returns-clause-place : goal.returns-clause-place
returns-clause-place c =
    let g = goes-stays c.args.self.now c.key_for.new.self c.recall_well_kept.ensures c.key_for.ensures.goes c.key_for.ensures.state in
    ok-place c.enter_key.result (λ n. entered-place c.args.self.now c.key_for.new.self c.in_ok-key.key _ g.1 c.in_ok-key.ensures.key c.enter_key.new.self n c.in_default.ensures) c.enter_key.ensures.entered c.enter_key.ensures.place

pub returns-clause-stopped : goal.returns-clause-stopped
returns-clause-stopped c =
    let g = goes-stays c.args.self.now c.key_for.new.self c.recall_well_kept.ensures c.key_for.ensures.goes c.key_for.ensures.state in
    then-err c.enter_key.result (λ e. ap table_of e ∙ g.1) c.enter_key.ensures.stopped

pub returns-clause-cause : goal.returns-clause-cause
returns-clause-cause c =
    let mid = c.key_for.new.self in
    let missing = subst (λ k. is_entered (table_of mid) k ≡ false) c.in_ok-key.ensures.key c.in_default.ensures in
    entered-cause c.enter_key.new.self.context.trees _ c.args.self.now mid c.enter_key.new.self c.enter_key.result missing c.enter_key.ensures.stopped c.enter_key.ensures.cause

use Rattle.std.proofs.Common.{sym, subst}
use Rattle.candidate_rounds.specs.Evaluators.Known.{listing}
use Rattle.candidate_rounds.specs.Table.Steps.{StepsHold}
use Rattle.candidate_rounds.proofs.Table.Running.{stays-refl, stays-trans}
use Rattle.candidate_rounds.proofs.Table.Steps.{steps-beside}
use Rattle.candidate_rounds.specs.Table.StepStops.{IsSearchStop, search_memory}
use Rattle.candidate_rounds.proofs.Table.StepStops.{memory-search, search-before}
use Rattle.candidate_rounds.proofs.Stops.ResponseStops.{passed-on}
use Rattle.ir_trees.specs.declared.ir.stop.Stop.TheVariants.{Memory}
use Rattle.candidate_rounds.proofs.rounds.Rounds.extended.Goals as goal

pub returns-then-not-is_due-clause-stays : goal.returns-then-not-is_due-clause-stays
returns-then-not-is_due-clause-stays c = stays-refl c.args.self.now

pub returns-in_default-clause-stays : goal.returns-in_default-clause-stays
returns-in_default-clause-stays c = stays-refl c.args.self.now

pub returns-in_err-wait-clause-stays : goal.returns-in_err-wait-clause-stays
returns-in_err-wait-clause-stays c = c.step_for.ensures.stays

pub returns-in_err-wait-clause-cause : goal.returns-in_err-wait-clause-cause
returns-in_err-wait-clause-cause c = passed-on (IsSearchStop c.step_for.new.self.context.trees c.args.self.now) c.from_residual-in_err-wait.result c.in_err-wait.field-0.0 c.from_residual-in_err-wait.ensures.1 (memory-search c.in_err-wait.ensures)

pub returns-in_default-step-clause-holds : goal.returns-in_default-step-clause-holds
returns-in_default-step-clause-holds c = steps-beside c.args.self.now c.step_for.new.self c.step_for.ensures.stays c.args.steps.items c.requires.holds

pub with_fewest-requires-clause-before : goal.with_fewest-requires-clause-before
with_fewest-requires-clause-before c =
    let n = c.step_for.new.self in
    subst (StepsHold n.context (listing n)) (sym c.as_slice-2.ensures.value) (steps-beside c.args.self.now n c.step_for.ensures.stays c.args.steps.items c.requires.holds)

pub returns-in_err-step-2-clause-stays : goal.returns-in_err-step-2-clause-stays
returns-in_err-step-2-clause-stays c = stays-trans c.step_for.ensures.stays c.with_fewest.ensures.stays

pub returns-in_err-push-clause-stays : goal.returns-in_err-push-clause-stays
returns-in_err-push-clause-stays c = stays-trans c.step_for.ensures.stays c.with_fewest.ensures.stays

pub returns-clause-stays : goal.returns-clause-stays
returns-clause-stays c = stays-trans c.step_for.ensures.stays c.with_fewest.ensures.stays

pub returns-in_err-step-clause-cause : goal.returns-in_err-step-clause-cause
returns-in_err-step-clause-cause c = passed-on (IsSearchStop c.step_for.new.self.context.trees c.args.self.now) c.from_residual.result c.in_err-step.field-0.0 c.from_residual.ensures.1 (c.in_err-step.ensures.cause)

pub returns-in_err-step-2-clause-cause : goal.returns-in_err-step-2-clause-cause
returns-in_err-step-2-clause-cause c = passed-on (IsSearchStop c.with_fewest.new.self.context.trees c.args.self.now) c.from_residual-in_err-step-2.result c.in_err-step-2.field-0.0 c.from_residual-in_err-step-2.ensures.1 (search-before c.step_for.ensures.stays c.in_err-step-2.ensures.cause)

pub returns-in_err-push-clause-cause : goal.returns-in_err-push-clause-cause
returns-in_err-push-clause-cause c = passed-on (IsSearchStop c.with_fewest.new.self.context.trees c.args.self.now) c.from_residual-in_err-push.result Memory c.from_residual-in_err-push.ensures.1 search_memory

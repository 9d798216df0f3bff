use Rattle.candidate_assembly.specs.Goals.TraitGoals.{trait_goal}
use Rattle.overlaps.proofs.Stopping.{later-refl, later-steps, passed-on, step-stop, there}
use Rattle.overlaps.specs.Stopping.{IsOverlapStop, step_key, step_run}
use Rattle.overlaps.proofs.Staying.{stays-refl, stays-run, stays-same, stays-trans}
use Rattle.overlaps.proofs.specializing.run_predicate.Goals as goal

pub returns-then-not-stands_here-clause-stays : goal.returns-then-not-stands_here-clause-stays
returns-then-not-stands_here-clause-stays c = stays-refl c.args.rounds.now

pub returns-in_err-run_by-clause-stays : goal.returns-in_err-run_by-clause-stays
returns-in_err-run_by-clause-stays c = stays-trans (stays-same c.may_be_run.ensures.stays c.may_be_run.ensures.table) (stays-run _ _ c.args.effort c.run_by.result c.run_by.ensures.stays c.run_by.ensures.ran c.run_by.ensures.stopped)

pub returns-clause-stays : goal.returns-clause-stays
returns-clause-stays c = stays-trans (stays-same c.may_be_run.ensures.stays c.may_be_run.ensures.table) (stays-run _ _ c.args.effort c.run_by.result c.run_by.ensures.stays c.run_by.ensures.ran c.run_by.ensures.stopped)

pub returns-in_err-may_be_run-clause-cause : goal.returns-in_err-may_be_run-clause-cause
returns-in_err-may_be_run-clause-cause c = passed-on (IsOverlapStop c.args.rounds.now c.may_be_run.new.self) c.from_residual.result c.in_err-may_be_run.field-0.0 c.from_residual.ensures.1 (step-stop (later-refl c.args.rounds.now) (step_key c.args.env c.args.predicate (there c.args.env c.args.predicate (later-refl c.args.rounds.now) c.requires.env c.requires.args c.may_be_run.ensures.stays.grows.kept) c.in_err-may_be_run.ensures.cause))

pub returns-in_err-run_by-clause-cause : goal.returns-in_err-run_by-clause-cause
returns-in_err-run_by-clause-cause c = passed-on (IsOverlapStop c.args.rounds.now c.run_by.new.self) c.from_residual-in_err-run_by.result c.in_err-run_by.field-0.0 c.from_residual-in_err-run_by.ensures.1 (step-stop (later-steps (stays-same c.may_be_run.ensures.stays c.may_be_run.ensures.table)) (step_run c.args.env c.args.predicate (there c.args.env c.args.predicate (later-steps (stays-same c.may_be_run.ensures.stays c.may_be_run.ensures.table)) c.requires.env c.requires.args c.run_by.ensures.stays.grows.kept) c.in_err-run_by.ensures.cause))

pub returns-in_err-may_be_run-clause-stays : goal.returns-in_err-may_be_run-clause-stays
returns-in_err-may_be_run-clause-stays c = stays-same c.may_be_run.ensures.stays c.may_be_run.ensures.table

pub returns-then-not-branch-clause-stays : goal.returns-then-not-branch-clause-stays
returns-then-not-branch-clause-stays c = stays-same c.may_be_run.ensures.stays c.may_be_run.ensures.table

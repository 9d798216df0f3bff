use Rattle.ir_folds.proofs.Instantiation.Joining.{clause-kept}
use Rattle.candidate_eval.proofs.Dynamic.Objects.{env-kept}
use Rattle.candidate_rounds.proofs.Obligations.Gathering.{each-index}
use Rattle.overlaps.proofs.Stopping.{later-steps, passed-on, stop-later}
use Rattle.overlaps.specs.Specialized.{IsLeft}
use Rattle.overlaps.specs.Stopping.{IsOverlapStop}
use Rattle.overlaps.proofs.Staying.{stays-refl, stays-trans}
use Rattle.overlaps.proofs.specializing.run_left.Goals as goal

pub loop-i-init : goal.loop-i-init
loop-i-init c = stays-refl c.args.rounds.now

pub run_clause-requires-clause-env : goal.run_clause-requires-clause-env
run_clause-requires-clause-env c = (env-kept _ _ c.args.env c.loop-i.invariant.grows c.requires.env).0

pub run_clause-requires-clause-clause : goal.run_clause-requires-clause-clause
run_clause-requires-clause-clause c =
    (clause-kept _ _ _ c.loop-i.invariant.grows (each-index (IsLeft c.args.rounds.now.context.trees) c.args.left.now c.loop-i.i _ c.requires.left c.loop-i-test.true)).0

pub returns-in_err-run_clause-clause-stays : goal.returns-in_err-run_clause-clause-stays
returns-in_err-run_clause-clause-stays c = stays-trans c.loop-i.invariant c.run_clause.ensures.stays

pub loop-i-preserved : goal.loop-i-preserved
loop-i-preserved c = stays-trans c.loop-i.invariant c.run_clause.ensures.stays

pub returns-in_err-run_clause-clause-cause : goal.returns-in_err-run_clause-clause-cause
returns-in_err-run_clause-clause-cause c = passed-on (IsOverlapStop c.args.rounds.now c.run_clause.new.rounds) c.from_residual.result c.in_err-run_clause.field-0.0 c.from_residual.ensures.1 (stop-later (later-steps c.loop-i.invariant) c.in_err-run_clause.ensures.cause)

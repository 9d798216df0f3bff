use Rattle.candidate_eval.proofs.Dynamic.Objects.{env-kept}
use Rattle.overlaps.proofs.Stopping.{later-steps, passed-on, stop-later}
use Rattle.overlaps.proofs.Typed.{found-left, left-kept}
use Rattle.overlaps.specs.Stopping.{IsOverlapStop}
use Rattle.overlaps.proofs.Staying.{stays-trans}
use Rattle.overlaps.proofs.specializing.what_is_left_holds.Goals as goal

pub first_not_held-requires-clause-env : goal.first_not_held-requires-clause-env
first_not_held-requires-clause-env c = (env-kept _ _ c.args.env c.run_left.ensures.stays.grows c.requires.env).0

pub first_not_held-requires-clause-left : goal.first_not_held-requires-clause-left
first_not_held-requires-clause-left c = (left-kept _ _ c.args.left.now c.run_left.ensures.stays.grows c.requires.left).0

pub returns-in_err-number-clause-stays : goal.returns-in_err-number-clause-stays
returns-in_err-number-clause-stays c = stays-trans c.run_left.ensures.stays c.first_not_held.ensures.stays

pub returns-in_err-number-clause-cause : goal.returns-in_err-number-clause-cause
returns-in_err-number-clause-cause c = passed-on (IsOverlapStop c.args.rounds.now c.first_not_held.new.rounds) c.from_residual-in_err-number.result c.in_err-number.field-0.0 c.from_residual-in_err-number.ensures.1 (stop-later (later-steps c.run_left.ensures.stays) c.in_err-number.ensures.cause)

pub returns-in-Some-clause-stays : goal.returns-in-Some-clause-stays
returns-in-Some-clause-stays c = stays-trans c.run_left.ensures.stays c.first_not_held.ensures.stays

pub returns-in-None-clause-stays : goal.returns-in-None-clause-stays
returns-in-None-clause-stays c = stays-trans c.run_left.ensures.stays c.first_not_held.ensures.stays

pub returns-in-None-clause-is : goal.returns-in-None-clause-is
returns-in-None-clause-is c =
    found-left c.args.rounds.now c.run_left.new.rounds c.first_not_held.new.rounds c.args.env c.args.left.now c.run_left.ensures.stays c.first_not_held.ensures.sure c.requires.env c.requires.left
    (c.in_ok-number.ensures.hold c.in-None.is)

use Rattle.overlaps.proofs.Staying.{known-kept, known-refl}
use Rattle.overlaps.proofs.Stopping.{later-refl, step-stop}
use Rattle.overlaps.specs.Stopping.{step_giving}
use Rattle.overlaps.proofs.together.give_sure.Goals as goal

pub returns-in-Maybe-clause-stays : goal.returns-in-Maybe-clause-stays
returns-in-Maybe-clause-stays c = known-refl c.args.rounds.now

pub returns-in-Ok-clause-stays : goal.returns-in-Ok-clause-stays
returns-in-Ok-clause-stays c = known-kept c.give_normal.ensures.kept

pub returns-in-Err-NoSolution-clause-stays : goal.returns-in-Err-NoSolution-clause-stays
returns-in-Err-NoSolution-clause-stays c = known-kept c.give_normal.ensures.kept

pub returns-in-Err-Stop-clause-stays : goal.returns-in-Err-Stop-clause-stays
returns-in-Err-Stop-clause-stays c = known-kept c.give_normal.ensures.kept

pub returns-in-Err-Stop-clause-cause : goal.returns-in-Err-Stop-clause-cause
returns-in-Err-Stop-clause-cause c =
    let r = c.args.rounds.now in
    step-stop (later-refl r) (step_giving c.args.env c.args.alias c.args.response.now c.give_normal.ensures.kept.grows.kept c.requires.projection c.requires.response (c.in-Err-Stop.ensures.cause c.in-Err-Stop.stop c.in-Err-Stop.field-0-is))

use Rattle.std.proofs.Common.{◌<◌, length, rules}
use Rattle.candidate_rounds.proofs.Table.Running.{get-there}
use Rattle.candidate_rounds.proofs.rounds.derivation.step_at.Goals as goal

pub returns : goal.returns
returns c =
    let below : c.args.place < length c.args.steps.now = search rules in
    get-there c.args.steps.now c.args.place c.index-steps-place.result below c.index-steps-place.is

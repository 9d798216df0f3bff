use Rattle.std.proofs.lemmas.Result.{IfOk-weaker}
use Rattle.candidate_assembly.proofs.Calls.Causes.{so-err}
use Rattle.overlaps.proofs.JointNormals.{projected-as}
use Rattle.overlaps.proofs.Negated.{some-holds}
use Rattle.overlaps.proofs.Staying.{known-beside, known-then}
use Rattle.overlaps.proofs.Stopping.{later-steps, stop-later}
use Rattle.overlaps.specs.Together.{CameOf}
use Rattle.overlaps.proofs.together.projected.Goals as goal

pub returns-in-Some-clause-stays : goal.returns-in-Some-clause-stays
returns-in-Some-clause-stays c = known-then (known-beside c.normal.ensures.stays) c.give_sure.ensures.stays

pub returns-in-Some-clause-is : goal.returns-in-Some-clause-is
returns-in-Some-clause-is c =
    let old = c.args.rounds.now in
    let mid = c.normal.new.rounds in
    let came = some-holds (CameOf old mid c.args.env c.args.alias) c.in_ok-response.field-0 c.in-Some.response c.in-Some.is c.in_ok-response.ensures.comes in
    IfOk-weaker c.give_sure.result _ _
    (projected-as old mid c.give_sure.new.rounds c.args.env c.args.alias c.in-Some.response c.normal.ensures.stays c.requires.env c.requires.alias came) c.give_sure.ensures.is

pub returns-in-Some-clause-cause : goal.returns-in-Some-clause-cause
returns-in-Some-clause-cause c = so-err c.give_sure.result (λ s k. stop-later (later-steps c.normal.ensures.stays) k) c.give_sure.ensures.cause

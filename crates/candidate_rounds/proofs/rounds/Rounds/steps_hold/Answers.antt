use Rattle.std.proofs.Common.{◌≤◌, length, arith}
use Rattle.candidate_rounds.proofs.Table.Running.{stays-refl, stays-trans}
use Rattle.candidate_rounds.proofs.Table.Sources.{all-checked, none-checked, one-more-checked, refused-before}
use Rattle.candidate_rounds.proofs.Table.Steps.{none-hold, steps-stay}
use Rattle.candidate_rounds.specs.Table.StepStops.{AreStepsStop}
use Rattle.candidate_rounds.proofs.Table.StepStops.{steps-stop-before}
use Rattle.candidate_rounds.proofs.Stops.ResponseStops.{passed-on}
use Rattle.candidate_rounds.proofs.rounds.Rounds.steps_hold.Goals as goal

pub loop-place-init : goal.loop-place-init
loop-place-init c = let r = c.args.self.now in none-checked r r c.args.steps.now (record { stays = stays-refl r; are = c.requires; hold = none-hold r c.recall_well_kept.ensures })

pub returns-in_err-step_holds-clause-stays : goal.returns-in_err-step_holds-clause-stays
returns-in_err-step_holds-clause-stays c = stays-trans c.loop-place.invariant.hold.stays c.step_holds.ensures.stays

pub returns-then-not-branch-clause-stays : goal.returns-then-not-branch-clause-stays
returns-then-not-branch-clause-stays c = stays-trans c.loop-place.invariant.hold.stays c.step_holds.ensures.stays

pub loop-place-preserved : goal.loop-place-preserved
loop-place-preserved c =
    let at = c.loop-place in
    let h = at.invariant.hold in
    let n = c.step_holds.new.self in
    let ss = c.args.steps.now in
    let yes = c.if-not-branch.false in
    one-more-checked c.args.self.now at.self n ss at.place c.requires at.invariant
    (record { stays = stays-trans h.stays c.step_holds.ensures.stays; are = steps-stay at.self.context.trees n.context.trees c.step_holds.ensures.stays.grows.kept ss h.are; hold = c.in_ok-step_holds.ensures.holds yes })
    (c.in_ok-step_holds.ensures.source yes)

pub returns-then-not-branch-clause-refused : goal.returns-then-not-branch-clause-refused
returns-then-not-branch-clause-refused c = λ _. refused-before c.args.self.now c.loop-place.self c.loop-place.invariant.hold.stays c.args.steps.now c.requires (c.in_ok-step_holds.ensures.refused c.if-not-branch.true)

pub returns-clause-sources : goal.returns-clause-sources
returns-clause-sources c = λ _.
    let ss = c.args.steps.now in
    let end : length ss ≤ c.loop-place.place = (let a = c.loop-place-test.false in omega (arith, a)) in
    all-checked c.args.self.now c.loop-place.self ss c.loop-place.place end c.loop-place.invariant

pub returns-in_err-step_holds-clause-cause : goal.returns-in_err-step_holds-clause-cause
returns-in_err-step_holds-clause-cause c =
    let ts = c.step_holds.new.self.context.trees in
    passed-on (AreStepsStop ts c.args.self.now c.args.steps.now) c.from_residual.result c.in_err-step_holds.field-0.0 c.from_residual.ensures.1
    (steps-stop-before c.loop-place.invariant.hold.stays c.in_err-step_holds.ensures.cause)

use Rattle.candidate_rounds.proofs.Table.Running.{stays-refl, stays-trans}
use Rattle.candidate_rounds.proofs.Table.Tabled.{tabled-grown}
use Rattle.candidate_rounds.specs.Table.StepStops.{IsSearchStop}
use Rattle.candidate_rounds.proofs.Table.StepStops.{search-before}
use Rattle.candidate_rounds.proofs.Stops.ResponseStops.{passed-on}
use Rattle.candidate_rounds.proofs.rounds.Rounds.all_extended.Goals as goal

pub loop-place-init : goal.loop-place-init
loop-place-init c = record { stays = stays-refl c.args.self.now; holds = c.requires.holds }

pub extended-requires-clause-tabled : goal.extended-requires-clause-tabled
extended-requires-clause-tabled c = tabled-grown c.args.self.now.context.trees c.loop-place.self.context.trees c.loop-place.invariant.stays.grows.kept c.args.goals.now c.requires.tabled

pub returns-in_err-steps-clause-stays : goal.returns-in_err-steps-clause-stays
returns-in_err-steps-clause-stays c = stays-trans c.loop-place.invariant.stays c.extended.ensures.stays

pub loop-place-preserved : goal.loop-place-preserved
loop-place-preserved c = record { stays = stays-trans c.loop-place.invariant.stays c.extended.ensures.stays; holds = c.in_ok-steps.ensures.holds }

pub returns-in_err-steps-clause-cause : goal.returns-in_err-steps-clause-cause
returns-in_err-steps-clause-cause c = passed-on (IsSearchStop c.extended.new.self.context.trees c.args.self.now) c.from_residual.result c.in_err-steps.field-0.0 c.from_residual.ensures.1 (search-before c.loop-place.invariant.stays c.in_err-steps.ensures.cause)

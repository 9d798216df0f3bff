use Rattle.std.proofs.Common.{◌++◌, ◌∷◌, [], refl}
use Rattle.candidate_rounds.specs.Evaluators.Known.{listing}
use Rattle.candidate_rounds.specs.Table.Steps.{IsStep}
use Rattle.candidate_rounds.proofs.Table.Steps.{each-last, renested, steps-beside}
use Rattle.candidate_rounds.specs.Table.StepStops.{IsSearchStop}
use Rattle.candidate_rounds.proofs.Stops.ResponseStops.{passed-on}
use Rattle.candidate_rounds.proofs.rounds.Rounds.with_fewest.Goals as goal

pub fewest-requires-clause-step : goal.fewest-requires-clause-step
fewest-requires-clause-step c = each-last (IsStep c.args.self.now.context.trees) c.args.steps.now c.args.step c.requires.holds.are

pub returns-clause-holds : goal.returns-clause-holds
returns-clause-holds c =
    let n = c.fewest.new.self in
    let ss = c.args.steps.now in
    renested n.context (listing n) ss c.args.step _ refl refl (steps-beside c.args.self.now n c.fewest.ensures.stays (ss ++ c.args.step ∷ []) c.requires.holds)

pub returns-in_err-fewest-clause-cause : goal.returns-in_err-fewest-clause-cause
returns-in_err-fewest-clause-cause c = passed-on (IsSearchStop c.fewest.new.self.context.trees c.args.self.now) c.from_residual.result c.in_err-fewest.field-0.0 c.from_residual.ensures.1 (c.in_err-fewest.ensures.cause)

use Rattle.candidate_rounds.proofs.Stops.ResponseStops.{said-of-number}
use Rattle.candidate_rounds.proofs.rounds.responding.RenumberingPureFolderCx.answer.Goals as goal

pub returns-clause-cause : goal.returns-clause-cause
returns-clause-cause c = said-of-number _ _ _ c.renumbered_at.result c.renumbered_at.ensures.cause

use Rattle.candidate_rounds.proofs.Evaluators.Between.{parts}
use Rattle.candidate_rounds.proofs.rounds.Rounds.recall_given.Goals as goal

pub returns : goal.returns
returns c = (parts c.recall_well_kept.ensures).given

use Rattle.candidate_eval.specs.Interface.Noting.{at_wide_node}
use Rattle.candidate_rounds.proofs.rounds.opening.open_part.Goals as goal

pub returns-in-None-clause-cause : goal.returns-in-None-clause-cause
returns-in-None-clause-cause c = at_wide_node c.in-None.ensures.is

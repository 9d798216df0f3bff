use Rattle.ir_folds.proofs.Traversal.PureFolder.{said-subst}
use Rattle.candidate_rounds.proofs.rounds.values.PlacingPureFolderCx.answer.Goals as goal

pub returns-clause-cause : goal.returns-clause-cause
returns-clause-cause c = said-subst c.placed_arg.result _ _ c.placed_arg.ensures.cause

use Rattle.ir_folds.proofs.Traversal.PureFolder.{said-subst}
use Rattle.candidate_rounds.proofs.rounds.giving.TranslationPureFolderCx.answer.Goals as goal

pub returns-clause-cause : goal.returns-clause-cause
returns-clause-cause c = said-subst c.translated.result _ _ c.translated.ensures.cause

pub returns-clause-rest : goal.returns-clause-rest
returns-clause-rest c = c.translated.ensures.rest

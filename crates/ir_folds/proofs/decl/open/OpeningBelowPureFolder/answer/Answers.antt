use Rattle.ir_folds.proofs.Traversal.PureFolder.{said-subst}
use Rattle.ir_folds.proofs.decl.open.OpeningBelowPureFolder.answer.Goals as goal

pub returns-clause-cause : goal.returns-clause-cause
returns-clause-cause g c = said-subst c.opened_inside.result _ _ c.opened_inside.ensures.cause

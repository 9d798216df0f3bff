use Rattle.ir_folds.proofs.Traversal.PureFolder.{said-subst}
use Rattle.ir_folds.proofs.decl.subst.ShiftingPureFolder.answer.Goals as goal

pub returns-clause-cause : goal.returns-clause-cause
returns-clause-cause g c = said-subst c.moved.result _ _ c.moved.ensures.cause

use Rattle.ir_folds.proofs.Hierarchy.Implying.{heads}
use Rattle.ir_folds.proofs.decl.elaborate.InstancingPureFolder.answer.Goals as goal

pub returns-clause-cause : goal.returns-clause-cause
returns-clause-cause g c = heads _ _ c.put_or_renumber.result c.put_or_renumber.ensures.cause

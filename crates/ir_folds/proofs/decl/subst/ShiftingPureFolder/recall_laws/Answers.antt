use Rattle.std.proofs.Common.{refl}
use Rattle.ir_folds.proofs.Traversal.FoldStops.{subst-cause}
use Rattle.ir_folds.proofs.Traversal.FoldLaws.{moved-only}
use Rattle.ir_folds.proofs.decl.subst.ShiftingPureFolder.recall_laws.Goals as goal

pub returns-clause-stays : goal.returns-clause-stays
returns-clause-stays g c = λ ts us e i. (i, refl)

pub returns-clause-only : goal.returns-clause-only
returns-clause-only g c = λ ts d t e. moved-only c.args.self.now.by d t.head e

pub returns-clause-cause : goal.returns-clause-cause
returns-clause-cause g c = subst-cause

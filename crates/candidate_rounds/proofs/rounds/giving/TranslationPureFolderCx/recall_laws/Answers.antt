use Rattle.std.proofs.Common.{refl}
use Rattle.ir_folds.proofs.Traversal.FoldStops.{subst-cause}
use Rattle.candidate_rounds.specs.Calls.Giving.{lift_of}
use Rattle.candidate_rounds.proofs.Table.Naming.{unsaid}
use Rattle.candidate_rounds.proofs.rounds.giving.TranslationPureFolderCx.recall_laws.Goals as goal

pub returns-clause-stays : goal.returns-clause-stays
returns-clause-stays c = λ ts us e i. (tt, refl)

pub returns-clause-only : goal.returns-clause-only
returns-clause-only c = λ ts d t e. unsaid (lift_of c.args.self.now.lift) c.args.self.now.names.now t.head e

pub returns-clause-cause : goal.returns-clause-cause
returns-clause-cause c = subst-cause

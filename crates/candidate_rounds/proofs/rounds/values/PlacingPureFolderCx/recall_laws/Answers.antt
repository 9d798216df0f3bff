use Rattle.std.proofs.Common.{refl, reverse}
use Rattle.ir_folds.proofs.Traversal.FoldStops.{subst-cause}
use Rattle.candidate_rounds.proofs.Resolution.Placing.{placed-only}
use Rattle.candidate_rounds.proofs.rounds.values.PlacingPureFolderCx.recall_laws.Goals as goal

pub returns-clause-stays : goal.returns-clause-stays
returns-clause-stays c = λ ts us e i. (i, refl)

pub returns-clause-only : goal.returns-clause-only
returns-clause-only c = λ ts d t e. placed-only (reverse c.args.self.now.universes.now) d t.head e

pub returns-clause-cause : goal.returns-clause-cause
returns-clause-cause c = subst-cause

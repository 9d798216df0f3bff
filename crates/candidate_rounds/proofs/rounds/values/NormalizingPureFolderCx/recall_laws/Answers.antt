use Rattle.ir_folds.proofs.Traversal.FoldStops.{subst-cause}
use Rattle.candidate_rounds.proofs.Resolution.Listing.{listed-stay, nothing-unasked}
use Rattle.candidate_rounds.proofs.Snapshots.Knowing.{types-extend}
use Rattle.candidate_rounds.proofs.rounds.values.NormalizingPureFolderCx.recall_laws.Goals as goal

pub returns-clause-stays : goal.returns-clause-stays
returns-clause-stays c = λ ts us e k. let ps = c.args.self.now.normal.now in (types-extend ts us ps e k, listed-stay ts us ps e k)

pub returns-clause-only : goal.returns-clause-only
returns-clause-only c = λ ts d t e. nothing-unasked ts c.args.self.now.normal.now d t e

pub returns-clause-cause : goal.returns-clause-cause
returns-clause-cause c = subst-cause

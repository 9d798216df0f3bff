use Rattle.ir_folds.proofs.Traversal.FoldStops.{subst-cause}
use Rattle.candidate_rounds.proofs.Resolution.Quiet.{kept-unasked}
use Rattle.candidate_rounds.proofs.Resolution.Resolving.{kept-stay}
use Rattle.candidate_rounds.proofs.Snapshots.Knowing.{kinds-grown, known-stays}
use Rattle.candidate_rounds.proofs.rounds.resolving.ResolvingPureFolderCx.recall_laws.Goals as goal

pub returns-clause-stays : goal.returns-clause-stays
returns-clause-stays c = λ ts us e k.
    let s = c.args.self.now.inference.now in
    ((known-stays ts us s e k.0, kinds-grown ts us s.variables e k.0.values k.1), kept-stay ts us s e k.0)

pub returns-clause-only : goal.returns-clause-only
returns-clause-only c = λ ts d t e. kept-unasked ts c.args.self.now.inference.now d t e

pub returns-clause-cause : goal.returns-clause-cause
returns-clause-cause c = subst-cause

use Rattle.std.proofs.Common.{length, refl}
use Rattle.candidate_rounds.proofs.Resolution.Quiet.{renumbered-unasked}
use Rattle.candidate_rounds.proofs.Stops.ResponseStops.{renumbering-cause}
use Rattle.candidate_rounds.proofs.rounds.responding.RenumberingPureFolderCx.recall_laws.Goals as goal

pub returns-clause-stays : goal.returns-clause-stays
returns-clause-stays c = λ ts us e i. (i, refl)

pub returns-clause-only : goal.returns-clause-only
returns-clause-only c = λ ts d t e. renumbered-unasked c.args.self.now.numbers.now t e

pub returns-clause-cause : goal.returns-clause-cause
returns-clause-cause c = renumbering-cause (length c.args.self.now.numbers.now)

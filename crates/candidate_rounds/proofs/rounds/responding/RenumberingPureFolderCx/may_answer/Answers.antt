use Rattle.ir_trees.proofs.Instantiation.Quiet.{variable-kept}
use Rattle.candidate_rounds.proofs.Resolution.Quiet.{renumbered-quiet}
use Rattle.candidate_rounds.proofs.rounds.responding.RenumberingPureFolderCx.may_answer.Goals as goal

pub returns : goal.returns
returns c = λ ts d t are off. renumbered-quiet c.args.self.now.numbers.now d t (variable-kept c.args.marks t c.has_infer.result are c.has_infer.ensures off)

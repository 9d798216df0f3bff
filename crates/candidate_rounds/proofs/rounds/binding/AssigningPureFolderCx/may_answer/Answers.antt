use Rattle.ir_trees.specs.Instantiation.Folds.{arg_tree}
use Rattle.ir_trees.proofs.Instantiation.Quiet.{variable-kept}
use Rattle.candidate_rounds.proofs.Resolution.Quiet.{single-quiet}
use Rattle.candidate_rounds.proofs.rounds.binding.AssigningPureFolderCx.may_answer.Goals as goal

pub returns : goal.returns
returns c = λ ts d t are off.
    single-quiet c.args.self.now.variable (arg_tree ts c.args.self.now.value) d t (variable-kept c.args.marks t c.has_infer.result are c.has_infer.ensures off)

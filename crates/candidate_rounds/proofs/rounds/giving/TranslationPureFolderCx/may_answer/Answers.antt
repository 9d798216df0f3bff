use Rattle.ir_trees.proofs.Instantiation.Quiet.{made-kept}
use Rattle.candidate_rounds.specs.Calls.Giving.{lift_of}
use Rattle.candidate_rounds.proofs.Table.Naming.{translation-quiet}
use Rattle.candidate_rounds.proofs.rounds.giving.TranslationPureFolderCx.may_answer.Goals as goal

pub returns-else-has_infer : goal.returns-else-has_infer
returns-else-has_infer c = λ ts d t are off.
    let s = c.args.self.now in
    translation-quiet (lift_of s.lift) s.names.now d t (made-kept c.args.marks t c.has_infer.result c.has_placeholder.result are c.has_infer.ensures c.if-has_infer.false c.has_placeholder.ensures off)

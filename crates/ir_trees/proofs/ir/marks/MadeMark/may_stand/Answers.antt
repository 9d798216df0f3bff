use Rattle.ir_trees.proofs.Instantiation.Quiet.{made-kept}
use Rattle.ir_trees.proofs.ir.marks.MadeMark.may_stand.Goals as goal

pub returns-else-has_infer : goal.returns-else-has_infer
returns-else-has_infer c = λ t a n. made-kept c.args.kept t c.has_infer.result c.has_placeholder.result a c.has_infer.ensures c.if-has_infer.false c.has_placeholder.ensures n

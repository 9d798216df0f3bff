use Rattle.ir_trees.proofs.Instantiation.Quiet.{variable-kept}
use Rattle.ir_trees.proofs.ir.marks.UnsolvedMark.may_stand.Goals as goal

pub returns : goal.returns
returns c = λ t a n. variable-kept c.args.kept t c.has_infer.result a c.has_infer.ensures n

use Rattle.ir_trees.proofs.Instantiation.Quiet.{number-quiet, variable-kept}
use Rattle.ir_trees.proofs.ir.marks.VariableNumberMark.may_stand.Goals as goal

pub returns : goal.returns
returns c = λ t a n. number-quiet c.args.self.now.0 t (variable-kept c.args.kept t c.has_infer.result a c.has_infer.ensures n)

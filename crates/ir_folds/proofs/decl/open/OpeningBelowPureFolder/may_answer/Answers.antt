use Rattle.ir_trees.specs.Syntax.Words.{args_forest}
use Rattle.ir_trees.proofs.Instantiation.Quiet.{open_below-quiet, bound-kept}
use Rattle.ir_folds.proofs.decl.open.OpeningBelowPureFolder.may_answer.Goals as goal

pub returns : goal.returns
returns g c = λ ts d t are off. open_below-quiet (args_forest ts c.args.self.now.values) d t (bound-kept c.args.marks t c.has_bound.result are c.has_bound.ensures off)

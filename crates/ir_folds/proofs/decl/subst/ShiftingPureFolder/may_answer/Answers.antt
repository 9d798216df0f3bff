use Rattle.ir_trees.proofs.Instantiation.Quiet.{moved-quiet, bound-kept}
use Rattle.ir_folds.proofs.decl.subst.ShiftingPureFolder.may_answer.Goals as goal

pub returns : goal.returns
returns g c = λ ts d t are off. moved-quiet c.args.self.now.by d t (bound-kept c.args.marks t c.has_bound.result are c.has_bound.ensures off)

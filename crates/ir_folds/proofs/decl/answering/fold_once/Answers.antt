use Rattle.ir_folds.proofs.decl.answering.fold_once.Goals as goal

pub returns : goal.returns
returns g c = c.fold_noted.ensures.number

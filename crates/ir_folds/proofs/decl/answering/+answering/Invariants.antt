use Rattle.std.proofs.Common.{◌+◌, ◌*◌}
use Rattle.ir_folds.proofs.decl.answering.+answering.Given as goal

abbrev pub decreases-fold_part : goal.decreases-fold_part
decreases-fold_part g l = 3 * l.whole

abbrev pub decreases-fold_noted : goal.decreases-fold_noted
decreases-fold_noted g l = 3 * l.number + 2

abbrev pub decreases-fold_noted-fold_number : goal.decreases-fold_noted-fold_number
decreases-fold_noted-fold_number g l = 3 * l.number + 1

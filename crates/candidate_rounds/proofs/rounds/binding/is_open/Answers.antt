use Rattle.std.proofs.Common.{sym, ◌∙◌}
use Rattle.ir_trees.specs.Instantiation.Folds.{arg_tree}
use Rattle.candidate_rounds.proofs.Equations.Assigning.{no-variable}
use Rattle.candidate_rounds.proofs.rounds.binding.is_open.Goals as goal

pub returns-else-has : goal.returns-else-has
returns-else-has c = λ e.
    no-variable (arg_tree c.args.cx.now.trees c.args.arg) (sym c.has.ensures.is ∙ c.if-has.false) (sym c.has-else-has.ensures.is ∙ e)

use Rattle.std.proofs.Common.{length, reverse, sym, ◌∙◌}
use Rattle.ir_trees.specs.Instantiation.Folds.{arg_tree}
use Rattle.rounds_judge.specs.Equations.Scopes.{placed_head}
use Rattle.candidate_rounds.proofs.Resolution.Placing.{empty-places}
use Rattle.candidate_rounds.proofs.Resolution.Quiet.{placed-quiet}
use Rattle.candidate_rounds.proofs.Stops.Stopping.{arg-stop}
use Rattle.candidate_rounds.proofs.rounds.values.placed.Goals as goal

pub returns-clause-tree : goal.returns-clause-tree
returns-clause-tree c = c.fold_answers.ensures.tree

pub returns-clause-cause : goal.returns-clause-cause
returns-clause-cause c =
    arg-stop (λ d t. placed_head (reverse c.args.universes.now) d t.head) (length c.fold_answers.new.make.trees) c.args.cx.now.trees c.args.arg c.fold_answers.result c.fold_answers.ensures.cause

pub returns-then-is_empty-clause-tree : goal.returns-then-is_empty-clause-tree
returns-then-is_empty-clause-tree c = empty-places c.args.universes.now (arg_tree c.args.cx.now.trees c.args.arg) (sym c.is_empty.ensures ∙ c.if-is_empty.true)

pub returns-then-not-has-clause-tree : goal.returns-then-not-has-clause-tree
returns-then-not-has-clause-tree c = placed-quiet (reverse c.args.universes.now) (arg_tree c.args.cx.now.trees c.args.arg) (sym c.has.ensures.is ∙ c.if-not-has.true)

use Rattle.std.proofs.Common.{refl, sym, ◌∙◌}
use Rattle.ir_trees.specs.Syntax.Words.{args_forest}
use Rattle.candidate_rounds.proofs.Obligations.Noting.{none-anew}
use Rattle.candidate_rounds.proofs.rounds.responding.numbered_args.Goals as goal

pub returns-clause-trees : goal.returns-clause-trees
returns-clause-trees c = c.renumbered.ensures.list refl

pub returns-then-is_empty-clause-trees : goal.returns-then-is_empty-clause-trees
returns-then-is_empty-clause-trees c = none-anew c.args.numbers.now (args_forest c.args.cx.now.trees c.args.args) (sym c.is_empty.ensures ∙ c.if-is_empty.true) c.requires.all

use Rattle.std.proofs.Common.{ap, sym, ◌∙◌}
use Rattle.ir_trees.specs.Instantiation.Folding.{Answers}
use Rattle.ir_trees.specs.Instantiation.Folds.{arg_tree}
use Rattle.candidate_rounds.proofs.Resolution.Listing.{listed-are}
use Rattle.candidate_rounds.proofs.rounds.values.NormalizingPureFolderCx.answer.Goals as goal

pub returns-clause-answer : goal.returns-clause-answer
returns-clause-answer c =
    let ts = c.args.make.now.trees in
    c.listed_arg.ensures.tree ∙ ap (λ (f : Answers). f c.args.binders (arg_tree ts c.args.arg)) (sym (listed-are ts c.args.self.now.normal.now c.requires.of))

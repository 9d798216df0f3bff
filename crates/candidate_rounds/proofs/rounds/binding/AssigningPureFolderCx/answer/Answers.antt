use Rattle.std.proofs.Common.{ap, subst, sym, ◌∙◌}
use Rattle.ir_trees.specs.Instantiation.Folds.{IsOfKind, arg_tree}
use Rattle.std.specs.Option.{option_map}
use Rattle.candidate_rounds.proofs.Equations.Assigning.{single-of-kind, single-tree}
use Rattle.candidate_rounds.proofs.rounds.binding.AssigningPureFolderCx.answer.Goals as goal

pub returns-clause-kind : goal.returns-clause-kind
returns-clause-kind c =
    let ts = c.args.make.now.trees in
    subst (IsOfKind ts c.args.arg) (sym c.put_for.ensures) (single-of-kind ts c.args.self.now.variable c.args.self.now.value c.args.arg c.requires.of.0 c.requires.of.1 c.requires.arg)

pub returns-clause-answer : goal.returns-clause-answer
returns-clause-answer c =
    let ts = c.args.make.now.trees in
    ap (option_map (arg_tree ts)) c.put_for.ensures ∙ single-tree ts c.args.self.now.variable c.args.self.now.value (arg_tree ts c.args.arg).head

use Rattle.std.proofs.Common.{ap, subst, sym}
use Rattle.std.specs.Option.{option_map}
use Rattle.ir_trees.specs.Instantiation.Folds.{IsOfKind, arg_tree}
use Rattle.candidate_rounds.proofs.Resolution.Resolving.{kept-of-kind}
use Rattle.candidate_rounds.proofs.rounds.resolving.ResolvingPureFolderCx.answer.Goals as goal

pub returns-clause-kind : goal.returns-clause-kind
returns-clause-kind c =
    let ts = c.args.make.now.trees in
    subst (IsOfKind ts c.args.arg) (sym c.value_for.ensures) (kept-of-kind ts c.args.self.now.inference.now c.requires.of.0.values c.requires.of.1 c.args.arg c.requires.arg)

pub returns-clause-answer : goal.returns-clause-answer
returns-clause-answer c = ap (option_map (arg_tree c.args.make.now.trees)) c.value_for.ensures

use Rattle.std.proofs.Common.{length, subst, sym, ◌∙◌}
use Rattle.ir_trees.specs.Instantiation.Folds.{IsArg, arg_tree}
use Rattle.rounds_judge.specs.Equations.Binding.{single}
use Rattle.candidate_rounds.proofs.Resolution.Alone.{single-itself}
use Rattle.candidate_rounds.proofs.Stops.Stopping.{arg-stop}
use Rattle.candidate_rounds.proofs.rounds.binding.put_value.Goals as goal

pub returns-in-Some-clause-sort : goal.returns-in-Some-clause-sort
returns-in-Some-clause-sort c =
    let ts = c.args.cx.now.trees in
    subst (IsArg ts) (single-itself c.args.variable c.args.value c.in-Some.put (arg_tree ts c.args.arg).head (sym c.put_for.ensures ∙ c.in-Some.is)) c.requires.value

pub fold_answers-requires-clause-of : goal.fold_answers-requires-clause-of
fold_answers-requires-clause-of c = (c.requires.value, c.requires.fits)

pub returns-clause-tree : goal.returns-clause-tree
returns-clause-tree c = c.fold_answers.ensures.tree

pub returns-clause-cause : goal.returns-clause-cause
returns-clause-cause c =
    let ts = c.args.cx.now.trees in
    arg-stop (λ d t. single c.args.variable (arg_tree ts c.args.value) t.head) (length c.fold_answers.new.make.trees) ts c.args.arg c.fold_answers.result c.fold_answers.ensures.cause

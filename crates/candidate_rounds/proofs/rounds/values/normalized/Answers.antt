use Rattle.std.proofs.Common.{◌≡◌, length, subst, sym, ◌∙◌}
use Rattle.std.specs.Prelude.{IfErr, IfOk}
use Rattle.ir_trees.specs.Instantiation.Folding.{Answers, IsSubstStop, fold_tree}
use Rattle.ir_trees.specs.Instantiation.Folds.{arg_tree}
use Rattle.ir_trees.specs.Unification.Substitutions.{alone}
use Rattle.candidate_rounds.specs.Calls.PureFolder.{listed_answers}
use Rattle.candidate_rounds.proofs.Resolution.Listing.{empty-listing, listed-are}
use Rattle.candidate_rounds.proofs.Stops.Stopping.{arg-stop}
use Rattle.candidate_rounds.proofs.rounds.values.normalized.Goals as goal

pub fold_answers-requires-clause-of : goal.fold_answers-requires-clause-of
fold_answers-requires-clause-of c = c.requires.types

pub returns-clause-tree : goal.returns-clause-tree
returns-clause-tree c =
    let ts = c.args.cx.now.trees in
    let P : Answers → Type 0 = λ f. IfOk c.fold_answers.result (λ x. arg_tree c.fold_answers.new.make.trees x ≡ fold_tree f 0 (arg_tree ts c.args.arg)) in
    subst P (listed-are ts c.args.normal.now c.requires.types) c.fold_answers.ensures.tree

pub returns-clause-cause : goal.returns-clause-cause
returns-clause-cause c =
    let ts = c.args.cx.now.trees in
    let given = length c.fold_answers.new.make.trees in
    let P : Answers → Type 0 = λ f. IfErr c.fold_answers.result (IsSubstStop given (alone (fold_tree f 0 (arg_tree ts c.args.arg)))) in
    subst P (listed-are ts c.args.normal.now c.requires.types) (arg-stop (listed_answers ts c.args.normal.now) given ts c.args.arg c.fold_answers.result c.fold_answers.ensures.cause)

pub returns-then-is_empty-clause-tree : goal.returns-then-is_empty-clause-tree
returns-then-is_empty-clause-tree c = empty-listing c.args.cx.now.trees c.args.normal.now (arg_tree c.args.cx.now.trees c.args.arg) (sym c.is_empty.ensures ∙ c.if-is_empty.true)

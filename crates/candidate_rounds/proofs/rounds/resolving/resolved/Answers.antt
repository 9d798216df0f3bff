use Rattle.std.proofs.Common.{◌≡◌, length, subst, sym, ◌∙◌}
use Rattle.std.specs.Prelude.{IfErr, IfOk}
use Rattle.ir_trees.specs.Instantiation.Folding.{Answers, IsSubstStop, fold, fold_tree}
use Rattle.ir_trees.specs.Syntax.Nodes.{tree_at}
use Rattle.ir_trees.specs.Unification.Substitutions.{row_of}
use Rattle.candidate_rounds.specs.Evaluators.Known.{members_of, state_of}
use Rattle.candidate_rounds.proofs.Resolution.Quiet.{resolved-quiet}
use Rattle.candidate_rounds.proofs.Resolution.Resolving.{kept-are}
use Rattle.candidate_rounds.proofs.rounds.resolving.resolved.Goals as goal

pub fold_answers-requires-clause-of : goal.fold_answers-requires-clause-of
fold_answers-requires-clause-of g c = (c.requires.known, c.requires.kinds)

pub returns-clause-tree : goal.returns-clause-tree
returns-clause-tree g c = λ m.
    let number = g.N.Numbered.number_of in
    let t = tree_at c.args.cx.now.trees (number c.args.value) in
    let P : Answers → Type 0 = λ f. IfOk c.fold_answers.result (λ x. tree_at c.fold_answers.new.make.trees (number x) ≡ fold_tree f 0 t) in
    subst P (kept-are c.args.cx.now.trees m c.args.inference.now) c.fold_answers.ensures.tree

pub returns-clause-list : goal.returns-clause-list
returns-clause-list g c = λ list m.
    let number = g.N.Numbered.number_of in
    let ts = c.args.cx.now.trees in
    let P : Answers → Type 0 = λ f. IfOk c.fold_answers.result (λ x. members_of c.fold_answers.new.make.trees (number x) ≡ fold f 0 (members_of ts (number c.args.value))) in
    subst P (kept-are ts m c.args.inference.now) (c.fold_answers.ensures.list list)

pub returns-clause-cause : goal.returns-clause-cause
returns-clause-cause g c = λ m.
    let row = row_of (g.N.Numbered.kind c.args.value) (tree_at c.args.cx.now.trees (g.N.Numbered.number_of c.args.value)) in
    let P : Answers → Type 0 = λ f. IfErr c.fold_answers.result (IsSubstStop (length c.fold_answers.new.make.trees) (fold f 0 row)) in
    subst P (kept-are c.args.cx.now.trees m c.args.inference.now) c.fold_answers.ensures.cause

pub returns-then-not-has_marked-clause-tree : goal.returns-then-not-has_marked-clause-tree
returns-then-not-has_marked-clause-tree g c = λ m.
    (resolved-quiet (state_of c.args.cx.now.trees m c.args.inference.now) (tree_at c.args.cx.now.trees (g.N.Numbered.number_of c.args.value)) (sym c.has_marked.ensures.is ∙ c.if-not-has_marked.true)).0

pub returns-then-not-has_marked-clause-list : goal.returns-then-not-has_marked-clause-list
returns-then-not-has_marked-clause-list g c = λ list m.
    (resolved-quiet (state_of c.args.cx.now.trees m c.args.inference.now) (tree_at c.args.cx.now.trees (g.N.Numbered.number_of c.args.value)) (sym c.has_marked.ensures.is ∙ c.if-not-has_marked.true)).1

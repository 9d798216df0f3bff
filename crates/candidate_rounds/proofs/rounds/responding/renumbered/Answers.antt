use Rattle.std.proofs.Common.{length, subst, sym, ◌∙◌}
use Rattle.std.specs.Prelude.{IfErr}
use Rattle.ir_trees.specs.Syntax.Nodes.{tree_at}
use Rattle.ir_trees.specs.Syntax.Trees.{Forest}
use Rattle.ir_trees.specs.Unification.Substitutions.{row_of}
use Rattle.candidate_rounds.specs.Evaluators.Stopping.{IsRenumberingStop}
use Rattle.candidate_rounds.proofs.Obligations.Anew.{fold-is, fold-tree-is}
use Rattle.candidate_rounds.proofs.Obligations.Gathering.{if-ok-then}
use Rattle.candidate_rounds.proofs.Resolution.Quiet.{numbered-quiet}
use Rattle.candidate_rounds.proofs.rounds.responding.renumbered.Goals as goal

pub returns-clause-tree : goal.returns-clause-tree
returns-clause-tree g c =
    if-ok-then c.fold_answers.result _ _ (λ a e. e ∙ fold-tree-is c.args.numbers.now (tree_at c.args.cx.now.trees (g.N.Numbered.number_of c.args.value))) c.fold_answers.ensures.tree

pub returns-clause-list : goal.returns-clause-list
returns-clause-list g c = λ list.
    if-ok-then c.fold_answers.result _ _ (λ a e. e ∙ fold-is c.args.numbers.now 0 (tree_at c.args.cx.now.trees (g.N.Numbered.number_of c.args.value)).children)
    (c.fold_answers.ensures.list list)

pub returns-clause-cause : goal.returns-clause-cause
returns-clause-cause g c =
    let many = length c.args.numbers.now in
    let row = row_of (g.N.Numbered.kind c.args.value) (tree_at c.args.cx.now.trees (g.N.Numbered.number_of c.args.value)) in
    subst (λ (f : Forest). IfErr c.fold_answers.result (λ s. IsRenumberingStop many (length c.fold_answers.new.make.trees) f s)) (fold-is c.args.numbers.now 0 row)
    c.fold_answers.ensures.cause

pub returns-then-not-has_marked-clause-tree : goal.returns-then-not-has_marked-clause-tree
returns-then-not-has_marked-clause-tree g c =
    (numbered-quiet c.args.numbers.now (tree_at c.args.cx.now.trees (g.N.Numbered.number_of c.args.value)) (sym c.has_marked.ensures.is ∙ c.if-not-has_marked.true)).0

pub returns-then-not-has_marked-clause-list : goal.returns-then-not-has_marked-clause-list
returns-then-not-has_marked-clause-list g c = λ list.
    (numbered-quiet c.args.numbers.now (tree_at c.args.cx.now.trees (g.N.Numbered.number_of c.args.value)) (sym c.has_marked.ensures.is ∙ c.if-not-has_marked.true)).1

use Rattle.std.proofs.Common.{sym, ◌∙◌, ap, ℕ}
use Rattle.std.proofs.lemmas.Result.{err_from_is_err_and}
use Rattle.ir_trees.specs.Syntax.Nodes.{kind_at, tree_at, is_bound_kind}
use Rattle.ir_trees.specs.Syntax.Trees.{is_list_kind}
use Rattle.ir_trees.specs.Syntax.Words.{args_forest}
use Rattle.ir_trees.proofs.Syntax.Lists.{below_kind}
use Rattle.ir_folds.proofs.Instantiation.Substituting.{substituted-number, substituted-stop}
use Rattle.ir_trees.proofs.Instantiation.SubstLaws.{tree-unchanged, tree-twice, tree-height}
use Rattle.ir_folds.proofs.decl.subst.subst.Goals as goal

pub substituted-requires-clause-inside : goal.substituted-requires-clause-inside
substituted-requires-clause-inside g c = rw c.number.ensures (below_kind _ _ (g.N.Numbered.kind c.args.value) (g.met.N.Numbered.is_there c.args.value) c.requires.value)

pub substituted-requires-clause-no_bound : goal.substituted-requires-clause-no_bound
substituted-requires-clause-no_bound g c = rw c.number.ensures (ap is_bound_kind c.requires.value ∙ g.met.N.Numbered.is_unbound c.args.value)

pub returns-clause-sort : goal.returns-clause-sort
returns-clause-sort g c =
    let made = rw c.number.ensures at c.in_ok-number.ensures in
    ap (kind_at (g.M.Build.context c.substituted.new.make).trees) c.with_number.ensures.number ∙ (made.sort ∙ (c.requires.value ∙ sym c.with_number.ensures.kind))

pub returns-clause-tree : goal.returns-clause-tree
returns-clause-tree g c =
    let made = rw c.number.ensures at c.in_ok-number.ensures in
    let start = (g.M.Build.context c.args.make.now).trees in
    ap (tree_at (g.M.Build.context c.substituted.new.make).trees) c.with_number.ensures.number
    ∙ substituted-number (args_forest start c.args.args) start (g.M.Build.context c.substituted.new.make).trees (g.N.Numbered.number_of c.args.value) c.in_ok-number.number (g.N.Numbered.kind c.args.value) (g.met.N.Numbered.is_there c.args.value) c.requires.value made.sort made.tree made.list

pub returns-clause-list : goal.returns-clause-list
returns-clause-list g c = λ list.
    let made = rw c.number.ensures at c.in_ok-number.ensures in
    ap (λ (n : ℕ). (tree_at (g.M.Build.context c.substituted.new.make).trees n).children) c.with_number.ensures.number ∙ made.list (ap is_list_kind c.requires.value ∙ list)

pub returns-in_err-number-clause-cause : goal.returns-in_err-number-clause-cause
returns-in_err-number-clause-cause g c =
    let p = err_from_is_err_and c.from_residual.result c.from_residual.ensures.1 in
    let made = rw c.number.ensures at c.in_err-number.ensures in
    let start = (g.M.Build.context c.args.make.now).trees in
    rw (p.1, p.2) (substituted-stop (args_forest start c.args.args) start (g.N.Numbered.number_of c.args.value) _ (g.N.Numbered.kind c.args.value) _ c.requires.value made.tree_cause made.list_cause)

pub returns-clause-unchanged : goal.returns-clause-unchanged
returns-clause-unchanged g c = tree-unchanged (args_forest (g.M.Build.context c.args.make.now).trees c.args.args) (tree_at (g.M.Build.context c.args.make.now).trees (g.N.Numbered.number_of c.args.value)) _ (returns-clause-tree g c)

pub returns-clause-twice : goal.returns-clause-twice
returns-clause-twice g c = tree-twice (args_forest (g.M.Build.context c.args.make.now).trees c.args.args) (tree_at (g.M.Build.context c.args.make.now).trees (g.N.Numbered.number_of c.args.value)) _ (returns-clause-tree g c)

pub returns-clause-height : goal.returns-clause-height
returns-clause-height g c = tree-height (args_forest (g.M.Build.context c.args.make.now).trees c.args.args) (tree_at (g.M.Build.context c.args.make.now).trees (g.N.Numbered.number_of c.args.value)) _ (returns-clause-tree g c)

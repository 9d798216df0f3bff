use Rattle.std.proofs.Common.{◌∙◌, ap, length, subst, sym, ℕ, Ok}
use Rattle.std.proofs.lemmas.Result.{err_from_is_err_and}
use Rattle.ir_trees.specs.Instantiation.Folding.{fold}
use Rattle.ir_trees.specs.Syntax.Nodes.{is_bound_kind, kind_at, tree_at}
use Rattle.ir_trees.specs.Syntax.Trees.{Forest}
use Rattle.ir_trees.proofs.Syntax.Lists.{below_kind}
use Rattle.ir_trees.proofs.Syntax.Rows.{row-of}
use Rattle.ir_folds.proofs.Traversal.PureFolder.{once-members}
use Rattle.ir_folds.proofs.decl.answering.fold_answers.Goals as goal

pub fold_once-requires-clause-inside : goal.fold_once-requires-clause-inside
fold_once-requires-clause-inside g c = rw c.number.ensures (below_kind _ _ (g.N.Numbered.kind c.args.value) (g.met.N.Numbered.is_there c.args.value) c.requires.value)

pub fold_once-requires-clause-no_bound : goal.fold_once-requires-clause-no_bound
fold_once-requires-clause-no_bound g c = rw c.number.ensures (ap is_bound_kind c.requires.value ∙ g.met.N.Numbered.is_unbound c.args.value)

pub returns-clause-grows : goal.returns-clause-grows
returns-clause-grows g c = c.in_ok-number.ensures.grows

pub returns-clause-rest : goal.returns-clause-rest
returns-clause-rest g c = c.in_ok-number.ensures.rest

pub returns-in_err-number-clause-grows : goal.returns-in_err-number-clause-grows
returns-in_err-number-clause-grows g c = c.in_err-number.ensures.grows

pub returns-in_err-number-clause-rest : goal.returns-in_err-number-clause-rest
returns-in_err-number-clause-rest g c = c.in_err-number.ensures.rest

pub returns-clause-sort : goal.returns-clause-sort
returns-clause-sort g c =
    let made = rw c.number.ensures at c.in_ok-number.ensures in
    ap (kind_at (g.M.Build.context c.fold_once.new.make).trees) c.with_number.ensures.number ∙ (made.sort ∙ (c.requires.value ∙ sym c.with_number.ensures.kind))

pub returns-clause-tree : goal.returns-clause-tree
returns-clause-tree g c =
    let made = rw c.number.ensures at c.in_ok-number.ensures in
    ap (tree_at (g.M.Build.context c.fold_once.new.make).trees) c.with_number.ensures.number ∙ made.tree

pub returns-clause-list : goal.returns-clause-list
returns-clause-list g c = λ list.
    let made = rw c.number.ensures at c.in_ok-number.ensures in
    let ts = (g.M.Build.context c.args.make.now).trees in
    let x = c.args.answering.now in
    ap (λ (n : ℕ). (tree_at (g.M.Build.context c.fold_once.new.make).trees n).children) c.with_number.ensures.number
    ∙ once-members g.M.Build.context g.M.Build.rest (g.A.PureFolder.answers x ts) (g.A.PureFolder.causes x) c.args.make.now c.fold_once.new.make (g.N.Numbered.number_of c.args.value) (g.N.Numbered.kind c.args.value) (g.met.N.Numbered.is_there c.args.value)
    c.requires.value (Ok c.in_ok-number.number) list (c.recall_laws.ensures.only ts 0) made

pub returns-in_err-number-clause-cause : goal.returns-in_err-number-clause-cause
returns-in_err-number-clause-cause g c =
    let p = err_from_is_err_and c.from_residual.result c.from_residual.ensures.1 in
    let made = rw c.number.ensures at c.in_err-number.ensures in
    let ts = (g.M.Build.context c.args.make.now).trees in
    let x = c.args.answering.now in
    let P : Forest → Type 0 = λ us. g.A.PureFolder.causes x (length (g.M.Build.context c.fold_once.new.make).trees) (fold (g.A.PureFolder.answers x ts) 0 us) c.in_err-number.field-0.0 in
    rw (p.1, p.2) (subst P (row-of ts (g.N.Numbered.number_of c.args.value) (g.N.Numbered.kind c.args.value) (g.met.N.Numbered.is_there c.args.value) c.requires.value) made.cause)

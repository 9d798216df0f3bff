use Rattle.std.proofs.Common.{sym, ◌∙◌, ap, ℕ}
use Rattle.std.proofs.lemmas.Result.{err_from_is_err_and}
use Rattle.ir_trees.specs.Syntax.Nodes.{kind_at, tree_at, is_bound_kind}
use Rattle.ir_trees.proofs.Syntax.Lists.{below_kind}
use Rattle.ir_folds.proofs.Traversal.FoldLaws.{outcome-of, stop-of, number-by, members-by}
use Rattle.ir_folds.proofs.Traversal.FoldStops.{number-rest}
use Rattle.ir_folds.proofs.decl.fold.fold.Goals as goal

pub fold_number-requires-clause-inside : goal.fold_number-requires-clause-inside
fold_number-requires-clause-inside g c = rw c.number.ensures (below_kind _ _ (g.N.Numbered.kind c.args.value) (g.met.N.Numbered.is_there c.args.value) c.requires.value)

pub fold_number-requires-clause-no_bound : goal.fold_number-requires-clause-no_bound
fold_number-requires-clause-no_bound g c = rw c.number.ensures (ap is_bound_kind c.requires.value ∙ g.met.N.Numbered.is_unbound c.args.value)

pub returns-clause-outcome : goal.returns-clause-outcome
returns-clause-outcome g c =
    let made = rw c.number.ensures at c.in_ok-number.ensures in (
      _,
      outcome-of g.M.Build.context g.M.Build.rest g.F.FnMut g.N.Numbered.number_of g.N.Numbered.kind _ _ 0 _ c.args.value c.with_number.result (g.met.N.Numbered.is_there c.args.value) c.requires.value
          c.with_number.ensures.number c.with_number.ensures.kind made,
    )

pub returns-in_err-number-clause-outcome : goal.returns-in_err-number-clause-outcome
returns-in_err-number-clause-outcome g c =
    let p = err_from_is_err_and c.from_residual.result c.from_residual.ensures.1 in
    let made = rw c.number.ensures at c.in_err-number.ensures in
    rw (p.1, p.2) (_, stop-of g.M.Build.context g.M.Build.rest g.F.FnMut _ _ _ 0 (g.N.Numbered.number_of c.args.value) _ (g.N.Numbered.kind c.args.value) (g.met.N.Numbered.is_there c.args.value) c.requires.value made)

pub returns-clause-sort : goal.returns-clause-sort
returns-clause-sort g c =
    let made = rw c.number.ensures at c.in_ok-number.ensures in
    ap (kind_at (g.M.Build.context c.fold_number.new.make).trees) c.with_number.ensures.number ∙ (made.sort ∙ (c.requires.value ∙ sym c.with_number.ensures.kind))

pub returns-clause-answer : goal.returns-clause-answer
returns-clause-answer g c = λ a f.
    let made = rw c.number.ensures at c.in_ok-number.ensures in
    ap (tree_at (g.M.Build.context c.fold_number.new.make).trees) c.with_number.ensures.number
    ∙ number-by g.M.Build.context g.M.Build.rest g.F.FnMut a _ _ _ _ (g.N.Numbered.kind c.args.value) f (g.met.N.Numbered.is_there c.args.value) c.requires.value made

pub returns-clause-list : goal.returns-clause-list
returns-clause-list g c = λ list a f.
    let made = rw c.number.ensures at c.in_ok-number.ensures in
    ap (λ (n : ℕ). (tree_at (g.M.Build.context c.fold_number.new.make).trees n).children) c.with_number.ensures.number
    ∙ members-by g.M.Build.context g.M.Build.rest g.F.FnMut a _ _ _ _ (g.N.Numbered.kind c.args.value) f (g.met.N.Numbered.is_there c.args.value) c.requires.value made list

pub returns-clause-rest : goal.returns-clause-rest
returns-clause-rest g c = number-rest g.M.Build.context g.M.Build.rest g.F.FnMut _ _ 0 c.number.result c.fold_number.result c.fold_number.ensures

pub returns-in_err-number-clause-rest : goal.returns-in_err-number-clause-rest
returns-in_err-number-clause-rest g c = number-rest g.M.Build.context g.M.Build.rest g.F.FnMut _ _ 0 c.number.result c.fold_number.result c.fold_number.ensures

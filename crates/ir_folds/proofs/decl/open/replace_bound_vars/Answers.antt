use Rattle.std.proofs.Common.{◌≡◌, ◌∙◌, ap, false, refl, rules, subst, sym, ℕ, Ok}
use Rattle.std.proofs.lemmas.Result.{err_from_is_err_and}
use Rattle.ir_trees.specs.Instantiation.Folding.{IsSubstStop}
use Rattle.ir_trees.specs.Syntax.Nodes.{is_bound_kind, kind_at, tree_at}
use Rattle.ir_trees.specs.Instantiation.Opening.{is_bound_variable, opened_head}
use Rattle.ir_trees.specs.Syntax.Words.{args_forest}
use Rattle.ir_trees.proofs.Growth.Kept.{grows-refl}
use Rattle.ir_trees.proofs.Syntax.Lists.{below_kind}
use Rattle.ir_folds.proofs.Traversal.PureFolder.{once-members}
use Rattle.ir_folds.proofs.Instantiation.Opening.{opened-only}
use Rattle.ir_trees.specs.Declarations.Context.{Context}
use Rattle.ir_trees.specs.Syntax.Trees.{tree_holds}
use Rattle.ir_trees.proofs.Instantiation.Quiet.{opened-quiet}
use Rattle.ir_folds.proofs.decl.open.replace_bound_vars.Goals as goal

pub fold_once-requires-clause-of : goal.fold_once-requires-clause-of
fold_once-requires-clause-of g c = c.requires.values

pub fold_once-requires-clause-inside : goal.fold_once-requires-clause-inside
fold_once-requires-clause-inside g c = rw c.number-whole.ensures (below_kind _ _ (g.N.Numbered.kind c.args.under) (g.met.N.Numbered.is_there c.args.under) c.requires.under)

pub fold_once-requires-clause-no_bound : goal.fold_once-requires-clause-no_bound
fold_once-requires-clause-no_bound g c = rw c.number-whole.ensures (ap is_bound_kind c.requires.under ∙ g.met.N.Numbered.is_unbound c.args.under)

pub returns-clause-grows : goal.returns-clause-grows
returns-clause-grows g c = c.in_ok-number.ensures.grows

pub returns-clause-rest : goal.returns-clause-rest
returns-clause-rest g c = c.in_ok-number.ensures.rest

pub returns-in_err-number-clause-grows : goal.returns-in_err-number-clause-grows
returns-in_err-number-clause-grows g c = c.in_err-number.ensures.grows

pub returns-in_err-number-clause-rest : goal.returns-in_err-number-clause-rest
returns-in_err-number-clause-rest g c = c.in_err-number.ensures.rest

pub returns-clause-sort : goal.returns-clause-sort
returns-clause-sort g c =
    let made = rw c.number-whole.ensures at c.in_ok-number.ensures in
    ap (kind_at (g.M.Build.context c.fold_once.new.make).trees) c.with_number.ensures.number ∙ (made.sort ∙ (c.requires.under ∙ sym c.with_number.ensures.kind))

pub returns-clause-tree : goal.returns-clause-tree
returns-clause-tree g c =
    let made = rw c.number-whole.ensures at c.in_ok-number.ensures in
    ap (tree_at (g.M.Build.context c.fold_once.new.make).trees) c.with_number.ensures.number ∙ made.tree

pub returns-clause-list : goal.returns-clause-list
returns-clause-list g c = λ list.
    let made = rw c.number-whole.ensures at c.in_ok-number.ensures in
    let values = args_forest (g.M.Build.context c.args.make.now).trees c.args.values in
    ap (λ (n : ℕ). (tree_at (g.M.Build.context c.fold_once.new.make).trees n).children) c.with_number.ensures.number
    ∙ once-members g.M.Build.context g.M.Build.rest (λ d t. opened_head values d t.head) IsSubstStop c.args.make.now c.fold_once.new.make (g.N.Numbered.number_of c.args.under) (g.N.Numbered.kind c.args.under) (g.met.N.Numbered.is_there c.args.under)
    c.requires.under (Ok c.in_ok-number.number) list (λ t. opened-only values 0 t.head) made

pub returns-in_err-number-clause-cause : goal.returns-in_err-number-clause-cause
returns-in_err-number-clause-cause g c =
    let p = err_from_is_err_and c.from_residual.result c.from_residual.ensures.1 in
    let made = rw c.number-whole.ensures at c.in_err-number.ensures in
    rw (p.1, p.2) made.cause

pub holds_bound-requires : goal.holds_bound-requires
holds_bound-requires g c = rw (c.number-whole.ensures, c.cx.ensures) (below_kind _ _ (g.N.Numbered.kind c.args.under) (g.met.N.Numbered.is_there c.args.under) c.requires.under)

pub returns-then-not-holds_bound-clause-tree : goal.returns-then-not-holds_bound-clause-tree
returns-then-not-holds_bound-clause-tree g c =
    let ts = (g.M.Build.context c.args.make.now).trees in
    let off : c.holds_bound.result ≡ false = search rules in
    let at = subst (λ (x : Context). tree_holds is_bound_variable (tree_at x.trees c.number-whole.result) ≡ false) c.cx.ensures (sym c.holds_bound.ensures ∙ off) in
    let none = subst (λ (n : ℕ). tree_holds is_bound_variable (tree_at ts n) ≡ false) c.number-whole.ensures at in
    sym (opened-quiet (args_forest ts c.args.values) (tree_at ts (g.N.Numbered.number_of c.args.under)) none).0

pub returns-then-not-holds_bound-clause-list : goal.returns-then-not-holds_bound-clause-list
returns-then-not-holds_bound-clause-list g c = λ _.
    let ts = (g.M.Build.context c.args.make.now).trees in
    let off : c.holds_bound.result ≡ false = search rules in
    let at = subst (λ (x : Context). tree_holds is_bound_variable (tree_at x.trees c.number-whole.result) ≡ false) c.cx.ensures (sym c.holds_bound.ensures ∙ off) in
    let none = subst (λ (n : ℕ). tree_holds is_bound_variable (tree_at ts n) ≡ false) c.number-whole.ensures at in
    sym (opened-quiet (args_forest ts c.args.values) (tree_at ts (g.N.Numbered.number_of c.args.under)) none).1

pub returns-then-not-holds_bound-clause-grows : goal.returns-then-not-holds_bound-clause-grows
returns-then-not-holds_bound-clause-grows g c = grows-refl _

pub returns-then-not-holds_bound-clause-rest : goal.returns-then-not-holds_bound-clause-rest
returns-then-not-holds_bound-clause-rest g c = refl

pub returns-then-not-holds_bound-clause-sort : goal.returns-then-not-holds_bound-clause-sort
returns-then-not-holds_bound-clause-sort g c = c.requires.under

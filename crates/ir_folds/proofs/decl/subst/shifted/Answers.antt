use Rattle.std.proofs.Common.{◌≡◌, ℕ, false, refl, rules, subst, sym, ◌∙◌, ap}
use Rattle.std.proofs.lemmas.Result.{err_from_is_err_and}
use Rattle.ir_trees.specs.Instantiation.Folding.{moved, IsSubstStop}
use Rattle.ir_trees.specs.Syntax.Kinds.{arg_number, arg_kind}
use Rattle.ir_trees.specs.Syntax.Nodes.{tree_at, kind_at}
use Rattle.ir_folds.proofs.Traversal.PureFolder.{once-alone}
use Rattle.ir_trees.proofs.Traversal.Asking.{arg-below, arg-bound}
use Rattle.ir_trees.proofs.Syntax.Members.{arg-there, arg-single}
use Rattle.ir_trees.specs.Declarations.Context.{Context}
use Rattle.ir_trees.specs.Instantiation.Opening.{is_bound_variable}
use Rattle.ir_trees.specs.Syntax.Trees.{tree_holds}
use Rattle.ir_trees.proofs.Instantiation.Quiet.{shift-quiet}
use Rattle.ir_trees.proofs.Growth.Kept.{grows-refl}
use Rattle.ir_folds.proofs.decl.subst.shifted.Goals as goal

pub fold_once-requires-clause-of : goal.fold_once-requires-clause-of
fold_once-requires-clause-of g c = tt

pub fold_once-requires-clause-inside : goal.fold_once-requires-clause-inside
fold_once-requires-clause-inside g c = rw c.number-whole.ensures (arg-below (g.M.Build.context c.args.make.now).trees c.args.arg c.requires)

pub fold_once-requires-clause-no_bound : goal.fold_once-requires-clause-no_bound
fold_once-requires-clause-no_bound g c = rw c.number-whole.ensures (arg-bound (g.M.Build.context c.args.make.now).trees c.args.arg c.requires)

pub returns-clause-grows : goal.returns-clause-grows
returns-clause-grows g c = c.in_ok-number.ensures.grows

pub returns-clause-rest : goal.returns-clause-rest
returns-clause-rest g c = c.in_ok-number.ensures.rest

pub returns-clause-kind : goal.returns-clause-kind
returns-clause-kind g c =
    let made = rw c.number-whole.ensures at c.in_ok-number.ensures in
    (ap (kind_at (g.M.Build.context c.fold_once.new.make).trees) c.with_number.ensures.number ∙ (made.sort ∙ (c.requires ∙ sym c.with_number.ensures.kind)), c.with_number.ensures.kind)

pub returns-clause-tree : goal.returns-clause-tree
returns-clause-tree g c =
    let made = rw c.number-whole.ensures at c.in_ok-number.ensures in
    ap (tree_at (g.M.Build.context c.fold_once.new.make).trees) c.with_number.ensures.number ∙ made.tree

pub returns-in_err-number-clause-grows : goal.returns-in_err-number-clause-grows
returns-in_err-number-clause-grows g c = c.in_err-number.ensures.grows

pub returns-in_err-number-clause-rest : goal.returns-in_err-number-clause-rest
returns-in_err-number-clause-rest g c = c.in_err-number.ensures.rest

pub returns-in_err-number-clause-cause : goal.returns-in_err-number-clause-cause
returns-in_err-number-clause-cause g c =
    let p = err_from_is_err_and c.from_residual.result c.from_residual.ensures.1 in
    let made = rw c.number-whole.ensures at c.in_err-number.ensures in
    rw (p.1, p.2)
    (once-alone g.M.Build.context g.M.Build.rest (λ d t. moved c.args.by d t.head) IsSubstStop c.args.make.now c.fold_once.new.make (arg_number c.args.arg) (arg_kind c.args.arg) (arg-there c.args.arg) c.requires _ (arg-single c.args.arg) made)

pub holds_bound-requires : goal.holds_bound-requires
holds_bound-requires g c = rw (c.number-whole.ensures, c.cx.ensures) (arg-below (g.M.Build.context c.args.make.now).trees c.args.arg c.requires)

pub returns-then-not-holds_bound-clause-tree : goal.returns-then-not-holds_bound-clause-tree
returns-then-not-holds_bound-clause-tree g c =
    let ts = (g.M.Build.context c.args.make.now).trees in
    let off : c.holds_bound.result ≡ false = search rules in
    let at = subst (λ (x : Context). tree_holds is_bound_variable (tree_at x.trees c.number-whole.result) ≡ false) c.cx.ensures (sym c.holds_bound.ensures ∙ off) in
    let none = subst (λ (n : ℕ). tree_holds is_bound_variable (tree_at ts n) ≡ false) c.number-whole.ensures at in
    sym (shift-quiet c.args.by (tree_at ts (arg_number c.args.arg)) none)

pub returns-then-not-holds_bound-clause-grows : goal.returns-then-not-holds_bound-clause-grows
returns-then-not-holds_bound-clause-grows g c = grows-refl _

pub returns-then-not-holds_bound-clause-rest : goal.returns-then-not-holds_bound-clause-rest
returns-then-not-holds_bound-clause-rest g c = refl

pub returns-then-not-holds_bound-clause-kind : goal.returns-then-not-holds_bound-clause-kind
returns-then-not-holds_bound-clause-kind g c = (c.requires, refl)

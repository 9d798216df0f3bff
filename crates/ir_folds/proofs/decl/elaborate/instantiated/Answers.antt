use Rattle.std.proofs.Common.{◌≡◌, false, refl, rules, subst, sym, ◌∙◌}
use Rattle.std.specs.Prelude.{◌-◌, ◌||◌}
use Rattle.std.proofs.lemmas.Result.{err_from_is_err_and}
use Rattle.ir_trees.specs.Syntax.Trees.{ClauseKind, is_param, tree_holds}
use Rattle.ir_trees.specs.Syntax.Words.{args_forest}
use Rattle.ir_trees.specs.Hierarchy.Elaboration.{instance_head, IsRenumberStop}
use Rattle.ir_trees.proofs.Growth.Kept.{grows-refl}
use Rattle.ir_trees.proofs.Syntax.Lists.{below_kind}
use Rattle.ir_folds.proofs.Traversal.PureFolder.{once-alone}
use Rattle.ir_trees.specs.Declarations.Context.{Context}
use Rattle.ir_trees.specs.Instantiation.Opening.{is_bound_variable}
use Rattle.ir_trees.specs.Syntax.Nodes.{tree_at}
use Rattle.ir_trees.proofs.Instantiation.Folding.{or-left, or-right}
use Rattle.ir_trees.proofs.Instantiation.Quiet.{instance-quiet}
use Rattle.ir_folds.proofs.decl.elaborate.instantiated.Goals as goal

pub fold_once-requires-clause-of : goal.fold_once-requires-clause-of
fold_once-requires-clause-of g c = c.requires.args

pub fold_once-requires-clause-inside : goal.fold_once-requires-clause-inside
fold_once-requires-clause-inside g c = below_kind _ _ ClauseKind refl c.requires.clause

pub returns-clause-grows : goal.returns-clause-grows
returns-clause-grows g c = c.in_ok-number.ensures.grows

pub returns-clause-rest : goal.returns-clause-rest
returns-clause-rest g c = c.in_ok-number.ensures.rest

pub returns-in_err-number-clause-grows : goal.returns-in_err-number-clause-grows
returns-in_err-number-clause-grows g c = c.in_err-number.ensures.grows

pub returns-in_err-number-clause-rest : goal.returns-in_err-number-clause-rest
returns-in_err-number-clause-rest g c = c.in_err-number.ensures.rest

pub returns-clause-sort : goal.returns-clause-sort
returns-clause-sort g c = c.in_ok-number.ensures.sort ∙ c.requires.clause

pub returns-clause-tree : goal.returns-clause-tree
returns-clause-tree g c = c.in_ok-number.ensures.tree

pub returns-in_err-number-clause-cause : goal.returns-in_err-number-clause-cause
returns-in_err-number-clause-cause g c =
    let p = err_from_is_err_and c.from_residual.result c.from_residual.ensures.1 in
    rw (p.1, p.2)
    (once-alone g.M.Build.context g.M.Build.rest (λ d t. instance_head (args_forest (g.M.Build.context c.args.make.now).trees c.args.args) c.args.by (d - 1) t.head) IsRenumberStop c.args.make.now c.fold_once.new.make c.args.clause.0 ClauseKind refl
    c.requires.clause _ refl c.in_err-number.ensures)

pub holds_param_or_bound-requires : goal.holds_param_or_bound-requires
holds_param_or_bound-requires g c = rw c.cx.ensures (below_kind _ _ ClauseKind refl c.requires.clause)

pub returns-then-not-holds_param_or_bound-clause-tree : goal.returns-then-not-holds_param_or_bound-clause-tree
returns-then-not-holds_param_or_bound-clause-tree g c =
    let t = tree_at (g.M.Build.context c.args.make.now).trees c.args.clause.0 in
    let off : c.holds_param_or_bound.result ≡ false = search rules in
    let none = subst (λ (x : Context). (let u = tree_at x.trees c.args.clause.0 in tree_holds is_param u || tree_holds is_bound_variable u) ≡ false) c.cx.ensures (sym c.holds_param_or_bound.ensures ∙ off) in
    sym (instance-quiet (args_forest (g.M.Build.context c.args.make.now).trees c.args.args) c.args.by t (or-left (tree_holds is_param t) (tree_holds is_bound_variable t) none) (or-right (tree_holds is_param t) (tree_holds is_bound_variable t) none))

pub returns-then-not-holds_param_or_bound-clause-grows : goal.returns-then-not-holds_param_or_bound-clause-grows
returns-then-not-holds_param_or_bound-clause-grows g c = grows-refl _

pub returns-then-not-holds_param_or_bound-clause-rest : goal.returns-then-not-holds_param_or_bound-clause-rest
returns-then-not-holds_param_or_bound-clause-rest g c = refl

pub returns-then-not-holds_param_or_bound-clause-sort : goal.returns-then-not-holds_param_or_bound-clause-sort
returns-then-not-holds_param_or_bound-clause-sort g c = c.requires.clause

use Rattle.std.proofs.Common.{◌≡◌, false, refl, rules, subst, sym, ◌∙◌}
use Rattle.ir_trees.specs.Syntax.Words.{args_forest}
use Rattle.ir_trees.proofs.Growth.Kept.{grows-refl}
use Rattle.ir_folds.proofs.Instantiation.Substituting.{put-tree, put-list, put-tree-cause, put-list-cause}
use Rattle.ir_trees.specs.Declarations.Context.{Context}
use Rattle.ir_trees.specs.Syntax.Nodes.{tree_at}
use Rattle.ir_trees.specs.Syntax.Trees.{is_param, tree_holds}
use Rattle.ir_trees.proofs.Instantiation.Quiet.{subst-quiet}
use Rattle.ir_folds.proofs.decl.subst.substituted.Goals as goal

pub fold_once-requires-clause-of : goal.fold_once-requires-clause-of
fold_once-requires-clause-of g c = c.requires.args

pub returns-clause-grows : goal.returns-clause-grows
returns-clause-grows g c = c.fold_once.ensures.grows

pub returns-clause-rest : goal.returns-clause-rest
returns-clause-rest g c = c.fold_once.ensures.rest

pub returns-clause-sort : goal.returns-clause-sort
returns-clause-sort g c = c.fold_once.ensures.sort

pub returns-clause-tree : goal.returns-clause-tree
returns-clause-tree g c = λ _.
    put-tree g.M.Build.context g.M.Build.rest (args_forest (g.M.Build.context c.args.make.now).trees c.args.args) c.args.make.now c.fold_once.new.make c.args.number c.requires.inside c.requires.there c.fold_once.result c.fold_once.ensures

pub returns-clause-list : goal.returns-clause-list
returns-clause-list g c =
    put-list g.M.Build.context g.M.Build.rest (args_forest (g.M.Build.context c.args.make.now).trees c.args.args) c.args.make.now c.fold_once.new.make c.args.number c.requires.inside c.requires.there c.fold_once.result c.fold_once.ensures

pub returns-clause-tree_cause : goal.returns-clause-tree_cause
returns-clause-tree_cause g c =
    put-tree-cause g.M.Build.context g.M.Build.rest (args_forest (g.M.Build.context c.args.make.now).trees c.args.args) c.args.make.now c.fold_once.new.make c.args.number c.requires.inside c.requires.there c.fold_once.result c.fold_once.ensures

pub returns-clause-list_cause : goal.returns-clause-list_cause
returns-clause-list_cause g c =
    put-list-cause g.M.Build.context g.M.Build.rest (args_forest (g.M.Build.context c.args.make.now).trees c.args.args) c.args.make.now c.fold_once.new.make c.args.number c.requires.inside c.requires.there c.fold_once.result c.fold_once.ensures

pub returns-then-not-holds_param-clause-tree : goal.returns-then-not-holds_param-clause-tree
returns-then-not-holds_param-clause-tree g c = λ _.
    let ts = (g.M.Build.context c.args.make.now).trees in
    let off : c.holds_param.result ≡ false = search rules in
    let none = subst (λ (x : Context). tree_holds is_param (tree_at x.trees c.args.number) ≡ false) c.cx.ensures (sym c.holds_param.ensures ∙ off) in
    sym (subst-quiet (args_forest ts c.args.args) (tree_at ts c.args.number) none).0

pub returns-then-not-holds_param-clause-list : goal.returns-then-not-holds_param-clause-list
returns-then-not-holds_param-clause-list g c = λ _.
    let ts = (g.M.Build.context c.args.make.now).trees in
    let off : c.holds_param.result ≡ false = search rules in
    let none = subst (λ (x : Context). tree_holds is_param (tree_at x.trees c.args.number) ≡ false) c.cx.ensures (sym c.holds_param.ensures ∙ off) in
    sym (subst-quiet (args_forest ts c.args.args) (tree_at ts c.args.number) none).1

pub returns-then-not-holds_param-clause-grows : goal.returns-then-not-holds_param-clause-grows
returns-then-not-holds_param-clause-grows g c = grows-refl _

pub returns-then-not-holds_param-clause-rest : goal.returns-then-not-holds_param-clause-rest
returns-then-not-holds_param-clause-rest g c = refl

pub returns-then-not-holds_param-clause-sort : goal.returns-then-not-holds_param-clause-sort
returns-then-not-holds_param-clause-sort g c = refl

use Rattle.ir_trees.proofs.Growth.Kept.{grows-trans}
use Rattle.std.proofs.Common.{◌≡◌, List, ◌∙◌, ap, subst}
use Rattle.std.specs.Prelude.{IfOk}
use Rattle.ir_trees.specs.declared.ir.kinds.GenericArg.{GenericArg}
use Rattle.ir_trees.specs.Declarations.Context.{Context}
use Rattle.ir_trees.specs.Syntax.Trees.{Tree, tree}
use Rattle.ir_trees.specs.Syntax.Words.{args_forest, clause_tree, list_forest, ty_tree}
use Rattle.candidate_eval.proofs.Dynamic.Required.{said_clause, said_fits, said_takes, said_tree}
use Rattle.std.proofs.lemmas.Result.{err_from_is_err_and}
use Rattle.std.proofs.lemmas.Result.{IfErr-weaker}
use Rattle.candidate_eval.specs.Interface.Unmade.IsUnmade.{no_memory}
use Rattle.candidate_eval.proofs.Interface.Unmade.{clause-unmade, members-unmade}
use Rattle.candidate_eval.proofs.objects.required.bound_clause.Goals as goal

pub mk_clause-requires-clause-fits : goal.mk_clause-requires-clause-fits
mk_clause-requires-clause-fits g c =
    said_fits (g.M.Build.context c.args.make.now) (g.M.Build.context c.mk_args.new.self) c.args.bound c.in_ok-args.args c.requires.fits c.in_ok-args.ensures.made.kept c.in_ok-args.ensures.made.sort

pub mk_clause-requires-clause-takes : goal.mk_clause-requires-clause-takes
mk_clause-requires-clause-takes g c = λ _.
    let start = g.M.Build.context c.args.make.now in
    let list = c.in_ok-list.list.items in
    let whole =
    subst (λ (x : Context). list_forest x.trees list ≡ tree (ty_tree x.trees c.args.object).head (ty_tree x.trees c.args.object).children (args_forest x.trees c.args.bound.value.args)) c.cx.ensures c.in_ok-list.ensures.forest in
    let forest = c.in_ok-args.ensures.made.tree ∙ (ap (λ (xs : List GenericArg). list_forest start.trees xs) c.as_slice.ensures.value ∙ whole) in
    said_takes start (g.M.Build.context c.mk_args.new.self) c.args.object c.args.bound c.in_ok-args.args c.requires.object c.requires.fits c.requires.takes c.in_ok-args.ensures.made.kept c.in_ok-args.ensures.made.sort forest

pub returns-clause-tree : goal.returns-clause-tree
returns-clause-tree g c =
    let start = g.M.Build.context c.args.make.now in
    let list = c.in_ok-list.list.items in
    let whole =
    subst (λ (x : Context). list_forest x.trees list ≡ tree (ty_tree x.trees c.args.object).head (ty_tree x.trees c.args.object).children (args_forest x.trees c.args.bound.value.args)) c.cx.ensures c.in_ok-list.ensures.forest in
    let forest = c.in_ok-args.ensures.made.tree ∙ (ap (λ (xs : List GenericArg). list_forest start.trees xs) c.as_slice.ensures.value ∙ whole) in
    subst (λ (t : Tree). IfOk c.mk_clause.result (λ x. clause_tree (g.M.Build.context c.mk_clause.new.self).trees x ≡ t))
    (said_tree start (g.M.Build.context c.mk_args.new.self) c.args.object c.args.bound c.in_ok-args.args c.requires.fits c.in_ok-args.ensures.made.kept c.in_ok-args.ensures.made.sort forest)
    c.mk_clause.ensures.made.tree

pub returns-clause-grows : goal.returns-clause-grows
returns-clause-grows g c =
    grows-trans _ _ _ c.mk_args.ensures.made.kept c.mk_clause.ensures.made.kept

pub returns-in_err-list-clause-cause : goal.returns-in_err-list-clause-cause
returns-in_err-list-clause-cause g c =
    let p = err_from_is_err_and c.from_residual.result c.from_residual.ensures.1 in
    rw (p.1, p.2) no_memory

pub returns-in_err-args-clause-cause : goal.returns-in_err-args-clause-cause
returns-in_err-args-clause-cause g c =
    let p = err_from_is_err_and c.from_residual-in_err-args.result c.from_residual-in_err-args.ensures.1 in
    rw (p.1, p.2) (members-unmade _ c.in_err-args.ensures.made.kept c.in_err-args.ensures.made.cause)

pub returns-clause-cause : goal.returns-clause-cause
returns-clause-cause g c = IfErr-weaker c.mk_clause.result _ _ (λ s x. clause-unmade (said_clause c.args.bound c.in_ok-args.args) c.mk_clause.ensures.made.kept x) c.mk_clause.ensures.made.cause

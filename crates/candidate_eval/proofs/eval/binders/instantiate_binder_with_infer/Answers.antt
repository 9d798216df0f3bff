use Rattle.std.proofs.Common.{◌∙◌, refl}
use Rattle.std.proofs.lemmas.Result.{IfOk-weaker, err_from_is_err_and}
use Rattle.ir_trees.specs.Syntax.Nodes.{tree_at}
use Rattle.ir_trees.proofs.Growth.Kept.{number-kept}
use Rattle.ir_trees.proofs.Syntax.Lists.{below_kind}
use Rattle.candidate_eval.proofs.Marks.Declared.{opened-kept, opened-list-kept, opened-row-kept}
use Rattle.candidate_eval.proofs.Interface.Probing.{made, on-ok, then}
use Rattle.candidate_eval.proofs.Interface.Accounts.{stays-there, stops-later, unmade-result}
use Rattle.candidate_eval.proofs.eval.binders.instantiate_binder_with_infer.Goals as goal

pub replace_bound_vars-requires-clause-under : goal.replace_bound_vars-requires-clause-under
replace_bound_vars-requires-clause-under g c =
    let old = g.E.Build.context c.args.ecx.now in
    let mid = g.E.Build.context c.fresh_args_for_binder.new.ecx in
    let n = g.N.Numbered.number_of c.args.binder.value in
    let low = below_kind old.trees n (g.N.Numbered.kind c.args.binder.value) (g.met.N.Numbered.is_there c.args.binder.value) c.requires.under in
    (number-kept old.trees mid.trees n c.in_ok-values.ensures.kept.grows.kept low).0 ∙ c.requires.under

pub returns-clause-tree : goal.returns-clause-tree
returns-clause-tree g c =
    let old = g.E.Build.context c.args.ecx.now in
    let mid = g.E.Build.context c.fresh_args_for_binder.new.ecx in
    let n = g.N.Numbered.number_of c.args.binder.value in
    let low = below_kind old.trees n (g.N.Numbered.kind c.args.binder.value) (g.met.N.Numbered.is_there c.args.binder.value) c.requires.under in
    let same = (number-kept old.trees mid.trees n c.in_ok-values.ensures.kept.grows.kept low).1 in
    IfOk-weaker c.replace_bound_vars.result _ _ (λ x e. opened-kept old.trees mid.trees n _ _ (tree_at (g.E.Build.context c.replace_bound_vars.new.make).trees (g.N.Numbered.number_of x)) c.in_ok-values.ensures.trees same e) c.replace_bound_vars.ensures.tree

pub returns-clause-list : goal.returns-clause-list
returns-clause-list g c = λ list.
    let old = g.E.Build.context c.args.ecx.now in
    let mid = g.E.Build.context c.fresh_args_for_binder.new.ecx in
    let n = g.N.Numbered.number_of c.args.binder.value in
    let low = below_kind old.trees n (g.N.Numbered.kind c.args.binder.value) (g.met.N.Numbered.is_there c.args.binder.value) c.requires.under in
    let same = (number-kept old.trees mid.trees n c.in_ok-values.ensures.kept.grows.kept low).1 in
    IfOk-weaker c.replace_bound_vars.result _ _ (λ x e. opened-list-kept old.trees mid.trees n _ _ (tree_at (g.E.Build.context c.replace_bound_vars.new.make).trees (g.N.Numbered.number_of x)).children c.in_ok-values.ensures.trees same e) (c.replace_bound_vars.ensures.list list)

pub returns-clause-kept : goal.returns-clause-kept
returns-clause-kept g c =
    then c.fresh_args_for_binder.ensures.kept (made (g.met.E.EvalCtxt.by_rest c.fresh_args_for_binder.new.ecx c.replace_bound_vars.new.make c.replace_bound_vars.ensures.rest) c.replace_bound_vars.ensures.grows)

pub returns-clause-state : goal.returns-clause-state
returns-clause-state g c =
    let same = (g.met.E.EvalCtxt.by_rest c.fresh_args_for_binder.new.ecx c.replace_bound_vars.new.make c.replace_bound_vars.ensures.rest).1 in
    on-ok c.replace_bound_vars.result (same ∙ c.in_ok-values.ensures.state)

pub returns-clause-cause : goal.returns-clause-cause
returns-clause-cause g c =
    let E = g.E.EvalCtxt in
    let old = g.E.Build.context c.args.ecx.now in
    let mid = g.E.Build.context c.fresh_args_for_binder.new.ecx in
    let n = g.N.Numbered.number_of c.args.binder.value in
    let low = below_kind old.trees n (g.N.Numbered.kind c.args.binder.value) (g.met.N.Numbered.is_there c.args.binder.value) c.requires.under in
    let same = (number-kept old.trees mid.trees n c.in_ok-values.ensures.kept.grows.kept low).1 in
    unmade-result E.fixed g.E.Build.context E.state E.stops _ c.replace_bound_vars.result c.args.ecx.now c.replace_bound_vars.new.make _ _ refl
    (opened-row-kept old.trees mid.trees n _ _ c.in_ok-values.ensures.trees same) c.replace_bound_vars.ensures.cause

pub returns-in_err-values-clause-cause : goal.returns-in_err-values-clause-cause
returns-in_err-values-clause-cause g c =
    let p = err_from_is_err_and c.from_residual.result c.from_residual.ensures.1 in
    rw (p.1, p.2) (stops-later (stays-there c.args.ecx.now) (λ ts x. absurd x) c.in_err-values.ensures.cause)

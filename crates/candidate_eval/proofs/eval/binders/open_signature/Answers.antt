use Rattle.std.proofs.Common.{refl, ◌∙◌}
use Rattle.std.proofs.lemmas.Result.{err_from_is_err_and}
use Rattle.ir_trees.specs.Syntax.Words.{ty_tree}
use Rattle.ir_trees.proofs.Growth.Kept.{args-kept, grows-refl, grows-trans, ty-kept}
use Rattle.candidate_eval.proofs.Marks.Declared.{opened-kept}
use Rattle.candidate_eval.specs.Interface.Unmade.AreValues.{members}
use Rattle.candidate_eval.specs.Interface.Unmade.IsMade.{under_binder}
use Rattle.candidate_eval.specs.Interface.Unmade.IsUnmade.{of_trees}
use Rattle.candidate_eval.proofs.eval.binders.open_signature.Goals as goal

pub returns-clause-grows : goal.returns-clause-grows
returns-clause-grows g c = grows-trans _ _ _ c.in_ok-inputs.ensures.grows c.in_ok-output.ensures.grows

pub returns-in_err-output-clause-grows : goal.returns-in_err-output-clause-grows
returns-in_err-output-clause-grows g c = grows-trans _ _ _ c.in_ok-inputs.ensures.grows c.in_err-output.ensures.grows

pub returns-in_err-inputs-clause-cause : goal.returns-in_err-inputs-clause-cause
returns-in_err-inputs-clause-cause g c =
    let p = err_from_is_err_and c.from_residual.result c.from_residual.ensures.1 in
    rw (p.1, p.2) (of_trees (g.M.Build.context c.args.make.now) (grows-refl _) c.in_err-inputs.ensures.grows (under_binder c.args.under.inputs.0 (members c.args.values.0)) c.in_err-inputs.ensures.cause)

pub returns-in_err-output-clause-cause : goal.returns-in_err-output-clause-cause
returns-in_err-output-clause-cause g c =
    let p = err_from_is_err_and c.from_residual-in_err-output.result c.from_residual-in_err-output.ensures.1 in
    rw (p.1, p.2) (of_trees (g.M.Build.context c.replace_bound_vars.new.make) c.in_ok-inputs.ensures.grows c.in_err-output.ensures.grows (under_binder c.args.under.output.0 (members c.args.values.0))
    c.in_err-output.ensures.cause)

pub replace_bound_vars-requires-2-clause-under : goal.replace_bound_vars-requires-2-clause-under
replace_bound_vars-requires-2-clause-under g c =
    (ty-kept (g.M.Build.context c.args.make.now) (g.M.Build.context c.replace_bound_vars.new.make) c.args.under.output c.in_ok-inputs.ensures.grows c.requires.output).0

pub replace_bound_vars-requires-2-clause-values : goal.replace_bound_vars-requires-2-clause-values
replace_bound_vars-requires-2-clause-values g c =
    (args-kept (g.M.Build.context c.args.make.now) (g.M.Build.context c.replace_bound_vars.new.make) c.args.values c.in_ok-inputs.ensures.grows c.requires.values).0

pub returns-clause-inputs : goal.returns-clause-inputs
returns-clause-inputs g c =
    let kept = args-kept (g.M.Build.context c.replace_bound_vars.new.make) (g.M.Build.context c.replace_bound_vars-2.new.make) c.in_ok-inputs.inputs c.in_ok-output.ensures.grows c.in_ok-inputs.ensures.sort in
    (kept.0, kept.1 ∙ c.in_ok-inputs.ensures.list refl)

pub returns-clause-output : goal.returns-clause-output
returns-clause-output g c =
    let old = g.M.Build.context c.args.make.now in
    let mid = g.M.Build.context c.replace_bound_vars.new.make in
    let values = (args-kept old mid c.args.values c.in_ok-inputs.ensures.grows c.requires.values).1 in
    let output = (ty-kept old mid c.args.under.output c.in_ok-inputs.ensures.grows c.requires.output).1 in
    (c.in_ok-output.ensures.sort, opened-kept old.trees mid.trees c.args.under.output.0 _ _ (ty_tree (g.M.Build.context c.replace_bound_vars-2.new.make).trees c.in_ok-output.output) values output c.in_ok-output.ensures.tree)

use Rattle.std.proofs.Common.{◌≡◌}
use Rattle.std.proofs.lemmas.Result.{err_from_is_err_and}
use Rattle.ir_trees.specs.Instantiation.Opening.{opened_tree}
use Rattle.ir_trees.specs.Syntax.Trees.{Forest}
use Rattle.ir_trees.specs.Syntax.Words.{args_forest, ty_tree, vars_tree}
use Rattle.candidate_eval.specs.Derivations.Characterization.{binder_kinds}
use Rattle.candidate_eval.specs.Judges.States.{fresh_variables}
use Rattle.ir_trees.proofs.Growth.Kept.{args-kept, grows-trans, ty-kept}
use Rattle.candidate_eval.specs.Interface.Accounts.StopsSomehow.{making}
use Rattle.candidate_eval.proofs.Interface.Accounts.{reaches, somehow}
use Rattle.candidate_eval.proofs.Interface.Probing.{made, then}
use Rattle.candidate_assembly.proofs.Rules.CallSteps.{opened-since, opened-still}
use Rattle.candidate_eval.specs.Interface.Unmade.IsUnmade.{of_trees}
use Rattle.candidate_eval.specs.Interface.Unmade.IsMade.{under_binder}
use Rattle.candidate_eval.specs.Interface.Unmade.AreValues.{members}
use Rattle.candidate_assembly.proofs.trait_goals.callable.open_callable.Goals as goal

pub returns-in_err-values-clause-cause : goal.returns-in_err-values-clause-cause
returns-in_err-values-clause-cause g c =
    let p = err_from_is_err_and c.from_residual.result c.from_residual.ensures.1 in
    rw (p.1, p.2) (somehow (reaches c.in_err-values.ensures.kept) (λ ts x. absurd x) c.in_err-values.ensures.cause)

pub replace_bound_vars-requires-clause-under : goal.replace_bound_vars-requires-clause-under
replace_bound_vars-requires-clause-under g c = (ty-kept (g.E.Build.context c.args.ecx.now) (g.E.Build.context c.fresh_args_for_binder.new.ecx) c.args.callable.value.0 c.fresh_args_for_binder.ensures.kept.grows c.requires.inputs).0

pub returns-in_err-inputs-clause-kept : goal.returns-in_err-inputs-clause-kept
returns-in_err-inputs-clause-kept g c =
    let r = g.met.E.EvalCtxt.by_rest c.fresh_args_for_binder.new.ecx c.replace_bound_vars.new.make c.replace_bound_vars.ensures.rest in
    then c.fresh_args_for_binder.ensures.kept (made r c.replace_bound_vars.ensures.grows)

pub returns-in_err-inputs-clause-cause : goal.returns-in_err-inputs-clause-cause
returns-in_err-inputs-clause-cause g c =
    let p = err_from_is_err_and c.from_residual-in_err-inputs.result c.from_residual-in_err-inputs.ensures.1 in
    let old = g.E.Build.context c.fresh_args_for_binder.new.ecx in
    rw (p.1, p.2) (making
    (of_trees old c.fresh_args_for_binder.ensures.kept.grows c.replace_bound_vars.ensures.grows (under_binder c.args.callable.value.0.0 (members c.in_ok-values.values.0)) c.in_err-inputs.ensures.cause))

pub replace_bound_vars-requires-2-clause-under : goal.replace_bound_vars-requires-2-clause-under
replace_bound_vars-requires-2-clause-under g c =
    (ty-kept (g.E.Build.context c.args.ecx.now) (g.E.Build.context c.replace_bound_vars.new.make) c.args.callable.value.1 (grows-trans (g.E.Build.context c.args.ecx.now) (g.E.Build.context c.fresh_args_for_binder.new.ecx) (g.E.Build.context c.replace_bound_vars.new.make) c.fresh_args_for_binder.ensures.kept.grows c.replace_bound_vars.ensures.grows) c.requires.output).0

pub replace_bound_vars-requires-2-clause-values : goal.replace_bound_vars-requires-2-clause-values
replace_bound_vars-requires-2-clause-values g c = (args-kept (g.E.Build.context c.fresh_args_for_binder.new.ecx) (g.E.Build.context c.replace_bound_vars.new.make) c.in_ok-values.values c.replace_bound_vars.ensures.grows c.in_ok-values.ensures.sort).0

pub returns-in_err-output-clause-kept : goal.returns-in_err-output-clause-kept
returns-in_err-output-clause-kept g c =
    let r = g.met.E.EvalCtxt.by_rest c.fresh_args_for_binder.new.ecx c.replace_bound_vars.new.make c.replace_bound_vars.ensures.rest in
    let q = g.met.E.EvalCtxt.by_rest c.replace_bound_vars.new.make c.replace_bound_vars-2.new.make c.replace_bound_vars-2.ensures.rest in
    then (then c.fresh_args_for_binder.ensures.kept (made r c.replace_bound_vars.ensures.grows)) (made q c.replace_bound_vars-2.ensures.grows)

pub returns-in_err-output-clause-cause : goal.returns-in_err-output-clause-cause
returns-in_err-output-clause-cause g c =
    let p = err_from_is_err_and c.from_residual-in_err-output.result c.from_residual-in_err-output.ensures.1 in
    let old = g.E.Build.context c.replace_bound_vars.new.make in
    rw (p.1, p.2) (making
    (of_trees old (grows-trans _ _ _ c.fresh_args_for_binder.ensures.kept.grows c.replace_bound_vars.ensures.grows) c.replace_bound_vars-2.ensures.grows (under_binder c.args.callable.value.1.0 (members c.in_ok-values.values.0)) c.in_err-output.ensures.cause))

pub returns-clause-kept : goal.returns-clause-kept
returns-clause-kept g c =
    let r = g.met.E.EvalCtxt.by_rest c.fresh_args_for_binder.new.ecx c.replace_bound_vars.new.make c.replace_bound_vars.ensures.rest in
    let q = g.met.E.EvalCtxt.by_rest c.replace_bound_vars.new.make c.replace_bound_vars-2.new.make c.replace_bound_vars-2.ensures.rest in
    then (then c.fresh_args_for_binder.ensures.kept (made r c.replace_bound_vars.ensures.grows)) (made q c.replace_bound_vars-2.ensures.grows)

pub returns-clause-state : goal.returns-clause-state
returns-clause-state g c =
    let r = g.met.E.EvalCtxt.by_rest c.fresh_args_for_binder.new.ecx c.replace_bound_vars.new.make c.replace_bound_vars.ensures.rest in
    let q = g.met.E.EvalCtxt.by_rest c.replace_bound_vars.new.make c.replace_bound_vars-2.new.make c.replace_bound_vars-2.ensures.rest in
    rw (q.1, r.1) c.in_ok-values.ensures.state

pub returns-clause-inputs : goal.returns-clause-inputs
returns-clause-inputs g c =
    let old = g.E.Build.context c.args.ecx.now in
    let mid = g.E.Build.context c.fresh_args_for_binder.new.ecx in
    let made-in = g.E.Build.context c.replace_bound_vars.new.make in
    let last = g.E.Build.context c.replace_bound_vars-2.new.make in
    let t = c.args.callable.value.0 in
    let variables : Forest = fresh_variables (g.E.EvalCtxt.state c.args.ecx.now) (binder_kinds (vars_tree old.trees c.args.callable.vars).children) in
    opened-still made-in last c.in_ok-inputs.inputs (opened_tree variables (ty_tree old.trees t)) c.replace_bound_vars-2.ensures.grows c.in_ok-inputs.ensures.sort
    (opened-since old mid made-in t c.in_ok-inputs.inputs c.in_ok-values.values variables c.fresh_args_for_binder.ensures.kept.grows c.requires.inputs c.in_ok-values.ensures.trees c.in_ok-inputs.ensures.tree)

pub returns-clause-output : goal.returns-clause-output
returns-clause-output g c =
    let old = g.E.Build.context c.args.ecx.now in
    let mid = g.E.Build.context c.fresh_args_for_binder.new.ecx in
    let made-in = g.E.Build.context c.replace_bound_vars.new.make in
    let last = g.E.Build.context c.replace_bound_vars-2.new.make in
    let t = c.args.callable.value.1 in
    let variables : Forest = fresh_variables (g.E.EvalCtxt.state c.args.ecx.now) (binder_kinds (vars_tree old.trees c.args.callable.vars).children) in
    let values : args_forest made-in.trees c.in_ok-values.values ≡ variables
    = rw (args-kept mid made-in c.in_ok-values.values c.replace_bound_vars.ensures.grows c.in_ok-values.ensures.sort).1 c.in_ok-values.ensures.trees in (
      c.in_ok-output.ensures.sort,
      opened-since old made-in last t c.in_ok-output.output c.in_ok-values.values variables (grows-trans old mid made-in c.fresh_args_for_binder.ensures.kept.grows c.replace_bound_vars.ensures.grows) c.requires.output values
          c.in_ok-output.ensures.tree,
    )

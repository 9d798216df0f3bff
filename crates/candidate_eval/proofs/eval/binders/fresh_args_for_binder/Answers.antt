use Rattle.std.proofs.Common.{◌≡◌, ◌∙◌, ap, subst}
use Rattle.std.proofs.lemmas.Result.{IfErr-weaker, IfOk-weaker, err_from_is_err_and, on_ok_weaker}
use Rattle.ir_trees.specs.Declarations.Context.{Context}
use Rattle.ir_trees.specs.Syntax.Words.{vars_tree}
use Rattle.candidate_eval.specs.Derivations.Characterization.{binder_kinds}
use Rattle.candidate_eval.specs.Interface.Evaluators.{kinds_listed}
use Rattle.candidate_eval.specs.Judges.States.{fresh_variables, with_fresh_variables}
use Rattle.candidate_eval.proofs.Dynamic.Objects.{variables-read}
use Rattle.candidate_eval.proofs.Interface.Accounts.{accounted-here, reaches}
use Rattle.candidate_eval.specs.Interface.Accounts.StopsBy.{accounted, no_memory}
use Rattle.candidate_eval.proofs.eval.binders.fresh_args_for_binder.Goals as goal

pub returns-clause-state : goal.returns-clause-state
returns-clause-state g c =
    let S = g.E.EvalCtxt.state c.args.ecx.now in
    let bound = variables-read c.in_ok-kinds.kinds.items (vars_tree c.cx.result.now.trees c.args.vars).children c.in_ok-kinds.ensures in
    let read = subst (λ (x : Context). kinds_listed c.in_ok-kinds.kinds.items ≡ binder_kinds (vars_tree x.trees c.args.vars).children) c.cx.ensures bound in
    on_ok_weaker c.fresh_args_for_item.result (λ e. e ∙ ap (with_fresh_variables S) (ap kinds_listed c.as_slice.ensures.value ∙ read)) c.fresh_args_for_item.ensures.made

pub returns-clause-trees : goal.returns-clause-trees
returns-clause-trees g c =
    let S = g.E.EvalCtxt.state c.args.ecx.now in
    let bound = variables-read c.in_ok-kinds.kinds.items (vars_tree c.cx.result.now.trees c.args.vars).children c.in_ok-kinds.ensures in
    let read = subst (λ (x : Context). kinds_listed c.in_ok-kinds.kinds.items ≡ binder_kinds (vars_tree x.trees c.args.vars).children) c.cx.ensures bound in
    IfOk-weaker c.fresh_args_for_item.result _ _ (λ x e. e ∙ ap (fresh_variables S) (ap kinds_listed c.as_slice.ensures.value ∙ read)) c.fresh_args_for_item.ensures.trees

pub returns-clause-cause : goal.returns-clause-cause
returns-clause-cause g c = IfErr-weaker c.fresh_args_for_item.result _ _ (λ s x. accounted (accounted-here _ (reaches c.fresh_args_for_item.ensures.kept) x)) c.fresh_args_for_item.ensures.cause

pub returns-in_err-kinds-clause-cause : goal.returns-in_err-kinds-clause-cause
returns-in_err-kinds-clause-cause g c =
    let p = err_from_is_err_and c.from_residual.result c.from_residual.ensures.1 in
    rw (p.1, p.2) no_memory

pub returns-in_err-kinds-clause-stopped : goal.returns-in_err-kinds-clause-stopped
returns-in_err-kinds-clause-stopped g c =
    let E = g.E.EvalCtxt in
    let p = err_from_is_err_and c.from_residual.result c.from_residual.ensures.1 in
    rw p.1 ((g.met.E.EvalCtxt.lawful (E.fixed c.args.ecx.now)).alike_judged_alike.alike_same (E.state c.args.ecx.now))

use Rattle.std.proofs.Common.{true, false, Err, refl, sym, ◌∙◌, ap}
use Rattle.std.proofs.lemmas.Result.{err_from_is_err_and}
use Rattle.ir_trees.proofs.Growth.Kept.{ty-kept}
use Rattle.candidate_eval.proofs.Frontier.Views.{view-general, view-other, sees-other, general-there}
use Rattle.candidate_eval.proofs.Frontier.Calls.{values-here}
use Rattle.candidate_eval.proofs.Frontier.Causes.{viewed-answer, viewed-itself}
use Rattle.candidate_eval.proofs.Interface.Stops.{view-ends}
use Rattle.candidate_eval.proofs.coherence.walk.view_of.Goals as goal

pub returns-then-is_general_variable-clause-sort : goal.returns-then-is_general_variable-clause-sort
returns-then-is_general_variable-clause-sort g c = (ty-kept _ _ _ c.normalized.ensures.grows c.shallow_resolve-ty.ensures.sort).0

pub returns-then-is_general_variable-clause-view : goal.returns-then-is_general_variable-clause-view
returns-then-is_general_variable-clause-view g c = λ d h told.
    let general = general-there c.cx.result.now (g.C.Build.context c.normalized.new.infcx) c.in_ok-normal.normal c.is_general_variable.result true
    c.is_general_variable.ensures c.cx.ensures c.if-is_general_variable.true in
    let values = values-here g.C.Build.context g.F.FnMut c.args.normalize.now c.args.infcx.now g.C.InferCtxtLike.seen g.C.InferCtxtLike.resolved d h in
    view-general (λ s t. g.C.InferCtxtLike.resolved s.1 t) d.normal (d.stands (c.args.normalize.now, c.args.infcx.now)) _ _ _ _ _
    (c.shallow_resolve-ty.ensures.tree ∙ sym (values _)) (c.in_ok-normal.ensures.answer d h (λ s o. view-ends _ s)) (sym general)
    (ty-kept _ _ _ c.normalized.ensures.grows c.shallow_resolve-ty.ensures.sort).1

pub returns-clause-view : goal.returns-clause-view
returns-clause-view g c = λ d h told.
    let general = general-there c.cx.result.now (g.C.Build.context c.normalized.new.infcx) c.in_ok-normal.normal c.is_general_variable.result false
    c.is_general_variable.ensures c.cx.ensures c.if-is_general_variable.false in
    let values = values-here g.C.Build.context g.F.FnMut c.args.normalize.now c.args.infcx.now g.C.InferCtxtLike.seen g.C.InferCtxtLike.resolved d h in
    view-other (λ s t. g.C.InferCtxtLike.resolved s.1 t) d.normal (d.stands (c.args.normalize.now, c.args.infcx.now)) _ _ _ _ _
    (c.shallow_resolve-ty.ensures.tree ∙ sym (values _)) (c.in_ok-normal.ensures.answer d h (λ s o. view-ends _ s)) (sees-other _ _ general)

pub returns-in_err-normal-clause-view : goal.returns-in_err-normal-clause-view
returns-in_err-normal-clause-view g c = λ d h told.
    let p = err_from_is_err_and c.from_residual.result c.from_residual.ensures.1 in
    let values = values-here g.C.Build.context g.F.FnMut c.args.normalize.now c.args.infcx.now g.C.InferCtxtLike.seen g.C.InferCtxtLike.resolved d h in
    rw (p.1, p.2)
    (view-other (λ s t. g.C.InferCtxtLike.resolved s.1 t) d.normal (d.stands (c.args.normalize.now, c.args.infcx.now)) _ _ _ _ _
    (c.shallow_resolve-ty.ensures.tree ∙ sym (values _)) (c.in_err-normal.ensures.answer d h (λ s o e. told s o (p.1 ∙ ap Err p.2 ∙ e))) refl)

pub returns-in_err-normal-clause-call : goal.returns-in_err-normal-clause-call
returns-in_err-normal-clause-call g c =
    let p = err_from_is_err_and c.from_residual.result c.from_residual.ensures.1 in
    rw (p.1, p.2) (viewed-answer g.C.Build.context g.F.FnMut _ _ _ _ _ _ c.shallow_resolve-ty.ensures.sort c.in_err-normal.ensures.call)

pub returns-then-is_general_variable-clause-call : goal.returns-then-is_general_variable-clause-call
returns-then-is_general_variable-clause-call g c =
    viewed-itself g.C.Build.context g.F.FnMut _ _ _ _ _ _ c.shallow_resolve-ty.ensures.sort c.in_ok-normal.ensures.call c.in_ok-normal.normal refl
    (ty-kept _ _ _ c.normalized.ensures.grows c.shallow_resolve-ty.ensures.sort).1

pub returns-clause-call : goal.returns-clause-call
returns-clause-call g c = viewed-answer g.C.Build.context g.F.FnMut _ _ _ _ _ _ c.shallow_resolve-ty.ensures.sort c.in_ok-normal.ensures.call

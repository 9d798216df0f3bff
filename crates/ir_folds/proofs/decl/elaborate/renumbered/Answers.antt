use Rattle.std.proofs.Common.{sym, ◌∙◌}
use Rattle.std.proofs.lemmas.Result.{err_from_is_err_and}
use Rattle.ir_trees.proofs.Traversal.Asking.{arg-head, arg-head-is, arg-below}
use Rattle.ir_folds.proofs.Instantiation.Bound.{renumbers, renumbers-too-high, renumbers-unmade}
use Rattle.ir_folds.proofs.Instantiation.Opening.{bound-kind}
use Rattle.ir_folds.proofs.decl.elaborate.renumbered.Goals as goal

pub head-head-requires : goal.head-head-requires
head-head-requires g c = rw (c.cx.ensures, c.number.ensures) (arg-below (g.M.Build.context c.args.make.now).trees c.args.arg c.requires)

pub returns-in_ok-bound_variable-in-Some-2-clause-kind : goal.returns-in_ok-bound_variable-in-Some-2-clause-kind
returns-in_ok-bound_variable-in-Some-2-clause-kind g c = (
  c.in_ok-bound_variable-in-Some-2.ensures.sort,
  c.in_ok-bound_variable-in-Some-2.ensures.kind
      ∙ (sym (bound-kind c.in-Some.kind c.in-Some.var) ∙ arg-head _ _ c.args.arg _ _ c.cx.ensures c.number.ensures c.requires (sym c.in-Some.ensures ∙ c.head-head.ensures)),
)

pub returns-in_ok-bound_variable-in-Some-2-clause-answer : goal.returns-in_ok-bound_variable-in-Some-2-clause-answer
returns-in_ok-bound_variable-in-Some-2-clause-answer g c =
    renumbers c.args.by c.args.binders _ c.in-Some.kind c.in-Some.var c.in-Some-2.var _
    (arg-head-is _ _ c.args.arg _ _ c.cx.ensures c.number.ensures c.head-head.ensures ∙ c.in-Some.ensures)
    (sym c.in-Some-2.is ∙ c.in_ok-var.ensures.moved) c.in_ok-bound_variable-in-Some-2.ensures.tree

pub returns-in_err-var-clause-cause : goal.returns-in_err-var-clause-cause
returns-in_err-var-clause-cause g c =
    let p = err_from_is_err_and c.from_residual.result c.from_residual.ensures.1 in
    rw (p.1, p.2) (renumbers-too-high _ c.args.by c.args.binders _ c.in-Some.kind c.in-Some.var _
    (arg-head-is _ _ c.args.arg _ _ c.cx.ensures c.number.ensures c.head-head.ensures ∙ c.in-Some.ensures) c.in_err-var.ensures.cause)

pub returns-in_err-bound_variable-in-Some-2-clause-cause : goal.returns-in_err-bound_variable-in-Some-2-clause-cause
returns-in_err-bound_variable-in-Some-2-clause-cause g c =
    let p = err_from_is_err_and c.from_residual-in_err-bound_variable-in-Some-2.result c.from_residual-in_err-bound_variable-in-Some-2.ensures.1 in
    rw (p.1, p.2) (renumbers-unmade _ c.args.by c.args.binders _ c.in-Some.kind c.in-Some.var c.in-Some-2.var _
    (arg-head-is _ _ c.args.arg _ _ c.cx.ensures c.number.ensures c.head-head.ensures ∙ c.in-Some.ensures)
    (sym c.in-Some-2.is ∙ c.in_ok-var.ensures.moved) c.in_err-bound_variable-in-Some-2.ensures.cause)

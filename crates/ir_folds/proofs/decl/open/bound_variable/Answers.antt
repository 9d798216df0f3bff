use Rattle.std.proofs.Common.{arith}
use Rattle.std.proofs.lemmas.Result.{err_from_is_err_and}
use Rattle.ir_folds.proofs.Traversal.FoldStops.{leaf-stop}
use Rattle.ir_folds.proofs.decl.open.bound_variable.Goals as goal

pub returns-in_err-mk_ty-in-Ty-clause-cause : goal.returns-in_err-mk_ty-in-Ty-clause-cause
returns-in_err-mk_ty-in-Ty-clause-cause g c =
    let p = err_from_is_err_and c.from_residual.result c.from_residual.ensures.1 in
    let made = c.in_err-mk_ty-in-Ty.ensures.made in
    rw (p.1, p.2) (leaf-stop _ _ _ _ _ made.unchanged (omega arith) made.cause)

pub returns-in_err-mk_const-in-Const-clause-cause : goal.returns-in_err-mk_const-in-Const-clause-cause
returns-in_err-mk_const-in-Const-clause-cause g c =
    let p = err_from_is_err_and c.from_residual-in_err-mk_const-in-Const.result c.from_residual-in_err-mk_const-in-Const.ensures.1 in
    let made = c.in_err-mk_const-in-Const.ensures.made in
    rw (p.1, p.2) (leaf-stop _ _ _ _ _ made.unchanged (omega arith) made.cause)

pub returns-in_err-mk_region-in-Region-clause-cause : goal.returns-in_err-mk_region-in-Region-clause-cause
returns-in_err-mk_region-in-Region-clause-cause g c =
    let p = err_from_is_err_and c.from_residual-in_err-mk_region-in-Region.result c.from_residual-in_err-mk_region-in-Region.ensures.1 in
    let made = c.in_err-mk_region-in-Region.ensures.made in
    rw (p.1, p.2) (leaf-stop _ _ _ _ _ made.unchanged (omega arith) made.cause)

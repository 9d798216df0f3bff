use Rattle.ir_trees.proofs.Growth.Kept.{grows-trans}
use Rattle.std.proofs.Common.{arith}
use Rattle.std.proofs.lemmas.Result.{err_from_is_err_and}
use Rattle.candidate_eval.proofs.Builtins.Types.{made_stop, slice_stop}
use Rattle.candidate_eval.proofs.structural.making.byte_slice.Goals as goal

pub returns-in_err-byte-clause-cause : goal.returns-in_err-byte-clause-cause
returns-in_err-byte-clause-cause g c =
    let p = err_from_is_err_and c.from_residual.result c.from_residual.ensures.1 in
    rw (p.1, p.2) (made_stop _ _ 1 _ c.in_err-byte.ensures.made.unchanged c.in_err-byte.ensures.made.cause (omega arith))

pub returns-in_err-slice-clause-cause : goal.returns-in_err-slice-clause-cause
returns-in_err-slice-clause-cause g c =
    let p = err_from_is_err_and c.from_residual-in_err-slice.result c.from_residual-in_err-slice.ensures.1 in
    rw (p.1, p.2) (slice_stop _ _ c.in_ok-byte.byte _ c.in_ok-byte.ensures.made.tree c.in_err-slice.ensures.made.unchanged c.in_err-slice.ensures.made.cause)

pub returns-in_err-slice-clause-grows : goal.returns-in_err-slice-clause-grows
returns-in_err-slice-clause-grows g c = grows-trans _ _ _ c.mk_ty.ensures.made.kept c.mk_ty-2.ensures.made.kept

pub returns-clause-grows : goal.returns-clause-grows
returns-clause-grows g c = grows-trans _ _ _ c.mk_ty.ensures.made.kept c.mk_ty-2.ensures.made.kept

use Rattle.ir_trees.specs.declared.ir.kinds.TyKind.TheVariants as TK
use Rattle.ir_trees.specs.declared.ir.kinds.UintTy.TheVariants as U
use Rattle.candidate_eval.proofs.Interface.Unmade.{type-unmade}
use Rattle.candidate_assembly.proofs.Calls.Causes.{so-err}
use Rattle.projection_goals.proofs.named.NamedType.ty.Goals as goal

pub returns-in-Error-clause-cause : goal.returns-in-Error-clause-cause
returns-in-Error-clause-cause g c = so-err c.mk_ty.result (λ s x. type-unmade TK.Error c.mk_ty.ensures.made.kept x) c.mk_ty.ensures.made.cause

pub returns-in-Usize-clause-cause : goal.returns-in-Usize-clause-cause
returns-in-Usize-clause-cause g c = so-err c.mk_ty-in-Usize.result (λ s x. type-unmade (TK.Uint U.Usize) c.mk_ty-in-Usize.ensures.made.kept x) c.mk_ty-in-Usize.ensures.made.cause

pub returns-in-U8-clause-cause : goal.returns-in-U8-clause-cause
returns-in-U8-clause-cause g c = so-err c.mk_ty-in-U8.result (λ s x. type-unmade (TK.Uint U.U8) c.mk_ty-in-U8.ensures.made.kept x) c.mk_ty-in-U8.ensures.made.cause

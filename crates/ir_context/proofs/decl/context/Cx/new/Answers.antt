use Rattle.std.proofs.Common.{refl}
use Rattle.ir_context.proofs.Unification.KeptLists.{listed-finished}
use Rattle.ir_context.proofs.Validity.WellFormed.{finished}
use Rattle.ir_context.proofs.decl.context.Cx.new.Goals as goal

pub invariant_of-result : goal.invariant_of-result
invariant_of-result c = (rw c.len.ensures.is (finished _ refl c.decls.invariant.0), listed-finished _ _ _ _ _ c.len.ensures.is c.decls.invariant.1)

use Rattle.std.proofs.Common.{arith}
use Rattle.ir_context.proofs.Unification.KeptLists.{listed-cut}
use Rattle.ir_context.proofs.Validity.WellFormed.{cut_context}
use Rattle.ir_context.proofs.decl.context.Cx.truncate.Goals as goal

pub invariant_of-self : goal.invariant_of-self
invariant_of-self c =
    let cut = cut_context _ c.max.result c.self.invariant.0 (omega (arith, c.max.ensures)) in
    let listed = listed-cut _ _ _ _ _ c.max.result c.self.invariant.0.there (omega (arith, c.max.ensures)) c.self.invariant.1 in
    rw c.truncate.ensures (cut, listed)

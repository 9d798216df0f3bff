use Rattle.std.proofs.Common.{subst, sym}
use Rattle.ir_trees.specs.Validity.WellFormed.{IsWellFormedTable}
use Rattle.ir_context.proofs.Validity.WellFormed.{declared_all}
use Rattle.ir_builder.proofs.decl.builder.DeclsBuilder.finish.Goals as goal

pub invariant_of-result : goal.invariant_of-result
invariant_of-result c = (declared_all _ _ (subst IsWellFormedTable (sym c.self.view_is) c.in_default.ensures.1), c.in_ok-impl_lists.ensures)

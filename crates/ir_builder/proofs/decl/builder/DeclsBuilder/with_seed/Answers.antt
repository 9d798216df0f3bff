use Rattle.std.proofs.Common.{ap}
use Rattle.ir_trees.specs.Declarations.Contents.{Contents}
use Rattle.ir_context.proofs.Validity.ListedImpls.{none_listed}
use Rattle.ir_builder.proofs.decl.builder.DeclsBuilder.with_seed.Goals as goal

pub invariant_of-result : goal.invariant_of-result
invariant_of-result c = none_listed _ _ _ _ (ap (λ (k : Contents). k.impls) c.new-3.ensures)

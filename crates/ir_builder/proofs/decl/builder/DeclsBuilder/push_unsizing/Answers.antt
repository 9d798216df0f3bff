use Rattle.std.proofs.Common.{refl}
use Rattle.ir_context.proofs.Validity.ListedImpls.{misnamed_listed}
use Rattle.ir_builder.proofs.decl.builder.DeclsBuilder.push_unsizing.Goals as goal

pub invariant_of-self-in-None : goal.invariant_of-self-in-None
invariant_of-self-in-None c = misnamed_listed _ _ _ _ refl

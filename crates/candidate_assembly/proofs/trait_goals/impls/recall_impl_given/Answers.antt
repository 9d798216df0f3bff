use Rattle.ir_context.proofs.Validity.Given.{impl_given}
use Rattle.candidate_assembly.proofs.trait_goals.impls.recall_impl_given.Goals as goal

pub returns : goal.returns
returns c = impl_given c.args.cx.now c.recall_well_formed_table.ensures c.args.of

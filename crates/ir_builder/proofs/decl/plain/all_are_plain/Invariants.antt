use Rattle.ir_builder.proofs.Validity.Plain.{NoneUpTo}
use Rattle.ir_builder.proofs.decl.plain.all_are_plain.Given as goal

abbrev pub invariant-loop-held : goal.invariant-loop-held
invariant-loop-held l = NoneUpTo l.nodes l.definitions l.impls l.fn.held l.held-index

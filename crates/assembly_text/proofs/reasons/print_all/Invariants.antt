use Rattle.ir_trees.specs.Declarations.Context.{Grows}
use Rattle.assembly_text.proofs.reasons.print_all.Given as goal

-- the context grows
abbrev pub invariant-loop-number : goal.invariant-loop-number
invariant-loop-number l = Grows l.fn.scope.maker l.scope.maker

use Rattle.assembly_text.proofs.Variables.{VariablesSoFar}
use Rattle.assembly_text.proofs.checking.variables.Given as goal

-- so many of the variables were made
abbrev pub invariant-loop-number : goal.invariant-loop-number
invariant-loop-number l = VariablesSoFar l.fn.cx l.cx l.kinds l.number l.list.items

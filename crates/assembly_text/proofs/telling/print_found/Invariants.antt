use Rattle.ir_trees.specs.Syntax.Words.{ListFits}
use Rattle.assembly_text.proofs.telling.print_found.Given as goal

-- the values are those of a list of the context
abbrev pub invariant-loop-arg : goal.invariant-loop-arg
invariant-loop-arg l = ListFits l.scope.maker.trees l.arg-items

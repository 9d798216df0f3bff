use Rattle.ir_trees.specs.Declarations.Context.{Grows}
use Rattle.assembly_text.specs.Solving.{AreValues}
use Rattle.assembly_text.proofs.solving.values.Given as goal

-- types are made, and those that are shown are of the context
abbrev pub invariant-loop-number : goal.invariant-loop-number
invariant-loop-number l = Grows l.fn.rounds.context l.rounds.context × AreValues l.rounds.context.trees l.values.items

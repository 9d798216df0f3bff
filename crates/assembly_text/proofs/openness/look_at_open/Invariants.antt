use Rattle.std.specs.Prelude.{All}
use Rattle.ir_trees.specs.Declarations.Context.{Grows}
use Rattle.assembly_text.specs.Explaining.{IsAsked}
use Rattle.assembly_text.proofs.openness.look_at_open.Given as goal

-- the context grows, and the goals that were looked at are of it
abbrev pub invariant-loop-place : goal.invariant-loop-place
invariant-loop-place l = Grows l.fn.cx l.cx × All (IsAsked l.cx.trees) l.told.items

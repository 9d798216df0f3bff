use Rattle.ir_trees.specs.Syntax.Words.{ty_tree}
use Rattle.overlaps.proofs.PartTraits.{AreParameters}
use Rattle.overlaps.proofs.auto.is_part.Given as goal

-- what stands so far below the type are parameters and regions, each another one
abbrev pub invariant-loop-place : goal.invariant-loop-place
invariant-loop-place l = AreParameters (ty_tree l.fn.cx.trees l.fn.ty).children l.place

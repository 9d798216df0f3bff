use Rattle.ir_trees.specs.Syntax.Nodes.{tree_at}
use Rattle.overlaps.proofs.PartTraits.{NotBefore}
use Rattle.overlaps.proofs.auto.stands_before.Given as goal

-- the child stands at none of the places so far
abbrev pub invariant-loop-earlier : goal.invariant-loop-earlier
invariant-loop-earlier l = let ts = l.fn.cx.trees in NotBefore ts (tree_at ts l.fn.number).children l.fn.child l.earlier

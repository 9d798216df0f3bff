use Rattle.ir_trees.specs.Syntax.Nodes.{tree_at}
use Rattle.candidate_rounds.specs.Calls.Opening.{AreTight}
use Rattle.candidate_rounds.proofs.Equations.OpenParts.{LooseTo}
use Rattle.candidate_rounds.proofs.rounds.opening.+has_loose_alias.Given as goal

abbrev pub decreases-has_loose_alias : goal.decreases-has_loose_alias
decreases-has_loose_alias l = l.number

abbrev pub invariant-loop-place : goal.invariant-loop-place
invariant-loop-place l = LooseTo (tree_at l.cx.trees l.number).children l.place × AreTight l.cx.trees l.tight

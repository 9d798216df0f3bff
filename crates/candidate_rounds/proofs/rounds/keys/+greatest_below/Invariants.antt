use Rattle.ir_trees.specs.Syntax.Nodes.{tree_at}
use Rattle.candidate_rounds.specs.Calls.Walking.{AreUpTo}
use Rattle.candidate_rounds.proofs.Table.Keying.{GreatestBelow}
use Rattle.candidate_rounds.proofs.rounds.keys.+greatest_below.Given as goal

abbrev pub decreases-greatest_below : goal.decreases-greatest_below
decreases-greatest_below l = l.number

abbrev pub invariant-loop-place : goal.invariant-loop-place
invariant-loop-place l = GreatestBelow l.universe (tree_at l.cx.trees l.number).children l.place l.greatest × AreUpTo l.greatest l.cx.trees l.walked

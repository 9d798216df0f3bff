use Rattle.ir_trees.specs.Syntax.Nodes.{tree_at}
use Rattle.candidate_rounds.specs.Calls.Repeating.{AreStill}
use Rattle.candidate_rounds.proofs.Resolution.Stirring.{IsStillTo}
use Rattle.candidate_rounds.proofs.rounds.repeating.+number_stirs.Given as goal

abbrev pub decreases-number_stirs : goal.decreases-number_stirs
decreases-number_stirs l = l.number

abbrev pub invariant-loop-place : goal.invariant-loop-place
invariant-loop-place l = IsStillTo l.inference (tree_at l.cx.trees l.number).children l.place × AreStill l.inference l.cx.trees l.walked

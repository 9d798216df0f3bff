use Rattle.ir_trees.specs.Syntax.Nodes.{tree_at}
use Rattle.candidate_rounds.specs.Calls.Walking.{AreGathered}
use Rattle.candidate_rounds.proofs.Stops.ResponseStops.{NotesBelow}
use Rattle.candidate_rounds.proofs.rounds.responding.+note_below.Given as goal

abbrev pub decreases-note_below : goal.decreases-note_below
decreases-note_below l = l.number

abbrev pub invariant-loop-place : goal.invariant-loop-place
invariant-loop-place l = NotesBelow l.initial.numbers.items (tree_at l.cx.trees l.number).children l.place l.numbers.items × AreGathered l.numbers.items l.cx.trees l.walked

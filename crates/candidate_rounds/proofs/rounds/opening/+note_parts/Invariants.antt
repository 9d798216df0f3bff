use Rattle.ir_trees.specs.Syntax.Nodes.{tree_at}
use Rattle.candidate_rounds.specs.Calls.Opening.{AreArgs, AreNoted, AreTight, trees_of}
use Rattle.candidate_rounds.proofs.Equations.OpenParts.{PartsTo}
use Rattle.candidate_rounds.proofs.rounds.opening.+note_parts.Given as goal

abbrev pub decreases-note_parts : goal.decreases-note_parts
decreases-note_parts l = l.number

abbrev pub invariant-loop-place : goal.invariant-loop-place
invariant-loop-place l =
    let ts = l.cx.trees in
    let ps = trees_of ts l.parts.items in
    PartsTo (trees_of ts l.initial.parts.items) (tree_at ts l.number).children l.place ps × AreTight ts l.tight × AreNoted ps ts l.walked × AreArgs ts l.parts.items

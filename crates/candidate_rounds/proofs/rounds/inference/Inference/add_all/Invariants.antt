use Rattle.candidate_rounds.proofs.Snapshots.Undoing.{AddsSoFar}
use Rattle.candidate_rounds.proofs.rounds.inference.Inference.add_all.Given as goal

abbrev pub invariant-loop-i : goal.invariant-loop-i
invariant-loop-i l = AddsSoFar l.initial.self l.self l.source l.goals l.i

use Rattle.candidate_rounds.proofs.Snapshots.Undoing.{VariablesSoFar}
use Rattle.candidate_rounds.proofs.rounds.inference.Inference.add_variables.Given as goal

abbrev pub invariant-loop-i : goal.invariant-loop-i
invariant-loop-i l = VariablesSoFar l.initial.self l.self l.kinds l.i

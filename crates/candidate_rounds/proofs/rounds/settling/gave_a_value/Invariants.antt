use Rattle.candidate_rounds.proofs.Obligations.Evaluating.{GaveSoFar}
use Rattle.candidate_rounds.proofs.rounds.settling.gave_a_value.Given as goal

abbrev pub invariant-loop-i : goal.invariant-loop-i
invariant-loop-i l = GaveSoFar l.before l.after l.i

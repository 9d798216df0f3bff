use Rattle.candidate_rounds.proofs.Obligations.Evaluating.{PendingSoFar}
use Rattle.candidate_rounds.proofs.rounds.Rounds.set_pending.Given as goal

abbrev pub invariant-loop-i : goal.invariant-loop-i
invariant-loop-i l = PendingSoFar l.fn.self l.self l.goals l.i

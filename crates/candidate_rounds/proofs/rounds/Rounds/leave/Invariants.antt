use Rattle.candidate_rounds.proofs.Equations.Leading.{LeftSoFar}
use Rattle.candidate_rounds.proofs.rounds.Rounds.leave.Given as goal

abbrev pub invariant-loop-i : goal.invariant-loop-i
invariant-loop-i l = LeftSoFar l.fn.self l.self l.goals l.i

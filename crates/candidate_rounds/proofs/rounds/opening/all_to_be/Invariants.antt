use Rattle.candidate_rounds.proofs.Equations.OpenGoals.{GoalsTo}
use Rattle.candidate_rounds.proofs.rounds.opening.all_to_be.Given as goal

abbrev pub invariant-loop-i : goal.invariant-loop-i
invariant-loop-i l = GoalsTo l.initial.cx l.cx l.env l.parts l.others l.i l.goals.items

use Rattle.rounds_judge.specs.Obligations.Responding.{renumbered_tree}
use Rattle.candidate_eval.specs.Interface.Evaluators.{NoFault}
use Rattle.candidate_rounds.proofs.Obligations.Gathering.{ClausesSoFar}
use Rattle.candidate_rounds.proofs.rounds.responding.renumbered_clauses.Given as goal

abbrev pub invariant-loop-i : goal.invariant-loop-i
invariant-loop-i l = ClausesSoFar (Unit {0}) (λ m. renumbered_tree l.numbers) l.initial.cx l.cx l.clauses l.i l.list.items × NoFault l.initial.cx l.cx

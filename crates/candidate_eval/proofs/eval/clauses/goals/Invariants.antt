use Rattle.std.proofs.Common.{◌≡◌, take}
use Rattle.candidate_eval.specs.Dynamic.ObjectRequirements.{goals_in}
use Rattle.candidate_eval.proofs.eval.clauses.goals.Given as goal

abbrev pub invariant-loop-clause : goal.invariant-loop-clause
invariant-loop-clause l = l.list.items ≡ goals_in l.env (take l.clause-index l.fn.clauses)

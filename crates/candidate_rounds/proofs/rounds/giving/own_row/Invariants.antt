use Rattle.candidate_eval.specs.Interface.Evaluators.{NoFault}
use Rattle.candidate_rounds.proofs.Table.Naming.{OwnSoFar}
use Rattle.candidate_rounds.proofs.rounds.giving.own_row.Given as goal

abbrev pub invariant-loop-i : goal.invariant-loop-i
invariant-loop-i l = OwnSoFar l.initial.cx l.cx l.variables l.numbers l.i l.list.items × NoFault l.initial.cx l.cx

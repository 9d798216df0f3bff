use Rattle.candidate_eval.specs.Interface.Evaluators.{NoFault}
use Rattle.candidate_rounds.proofs.Equations.Renewing.{ValuesSoFar}
use Rattle.candidate_rounds.proofs.rounds.binding.renew_values.Given as goal

abbrev pub invariant-loop-number : goal.invariant-loop-number
invariant-loop-number l = ValuesSoFar l.initial.cx l.cx l.initial.inference l.inference l.variable l.value l.first l.number × NoFault l.initial.cx l.cx

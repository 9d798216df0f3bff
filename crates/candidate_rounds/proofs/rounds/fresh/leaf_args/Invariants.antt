use Rattle.candidate_eval.specs.Interface.Evaluators.{NoFault}
use Rattle.candidate_rounds.proofs.Resolution.Leafing.{LeavesSoFar}
use Rattle.candidate_rounds.proofs.rounds.fresh.leaf_args.Given as goal

abbrev pub invariant-loop-i : goal.invariant-loop-i
invariant-loop-i l = LeavesSoFar l.initial.cx l.cx l.leaves l.kinds l.i l.list.items × NoFault l.initial.cx l.cx

use Rattle.candidate_eval.specs.declared.eval.mode.TypingMode.{TypingMode}
use Rattle.candidate_eval.specs.Judges.States.{resolved_tree}
use Rattle.candidate_rounds.specs.Evaluators.Known.{state_of}
use Rattle.candidate_eval.specs.Interface.Evaluators.{NoFault}
use Rattle.candidate_rounds.proofs.Obligations.Gathering.{ClausesSoFar}
use Rattle.candidate_rounds.proofs.rounds.responding.constraints.Given as goal

abbrev pub invariant-loop-i : goal.invariant-loop-i
invariant-loop-i l = ClausesSoFar TypingMode (λ m. resolved_tree (state_of l.initial.cx.trees m l.inference)) l.initial.cx l.cx l.regions l.i l.list.items × NoFault l.initial.cx l.cx

use Rattle.candidate_eval.specs.declared.eval.mode.TypingMode.{TypingMode}
use Rattle.candidate_eval.specs.Judges.States.{resolved_tree}
use Rattle.candidate_rounds.specs.Evaluators.Known.{state_of}
use Rattle.candidate_eval.specs.Interface.Evaluators.{NoFault}
use Rattle.candidate_rounds.proofs.Obligations.Gathering.{RootsSoFar}
use Rattle.candidate_rounds.proofs.rounds.responding.root_values.Given as goal

abbrev pub invariant-loop-number : goal.invariant-loop-number
invariant-loop-number l = RootsSoFar TypingMode (λ m. resolved_tree (state_of l.initial.cx.trees m l.inference)) l.initial.cx l.cx l.inference.variables l.number l.list.items × NoFault l.initial.cx l.cx

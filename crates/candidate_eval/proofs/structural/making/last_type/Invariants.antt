use Rattle.candidate_eval.proofs.Builtins.Types.{LastSoFar}
use Rattle.candidate_eval.proofs.structural.making.last_type.Given as goal

abbrev pub invariant-loop-arg : goal.invariant-loop-arg
invariant-loop-arg l = LastSoFar l.fn.list l.arg-index l.last

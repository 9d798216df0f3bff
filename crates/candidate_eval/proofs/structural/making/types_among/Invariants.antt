use Rattle.candidate_eval.proofs.Builtins.Types.{TypesSoFar}
use Rattle.candidate_eval.proofs.structural.making.types_among.Given as goal

abbrev pub invariant-loop-arg : goal.invariant-loop-arg
invariant-loop-arg l = TypesSoFar l.fn.list l.arg-index l.types.items

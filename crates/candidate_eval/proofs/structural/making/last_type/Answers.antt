use Rattle.candidate_eval.proofs.Builtins.Types.{another_last, same_last}
use Rattle.candidate_eval.proofs.structural.making.last_type.Goals as goal

pub loop-arg-preserved-in_default : goal.loop-arg-preserved-in_default
loop-arg-preserved-in_default c = same_last c.args.list.now c.loop-arg.last c.loop-arg.arg-index _ c.loop-arg.invariant c.loop-arg-test.true c.in_default.not-Ty

pub loop-arg-preserved : goal.loop-arg-preserved
loop-arg-preserved c = another_last c.args.list.now c.loop-arg.last c.loop-arg.arg-index _ c.in-Ty.ty c.loop-arg.invariant c.loop-arg-test.true c.in-Ty.is

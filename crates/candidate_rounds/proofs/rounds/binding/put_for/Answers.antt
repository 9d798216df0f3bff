use Rattle.ir_trees.proofs.Traversal.Asking.{arg-below}
use Rattle.candidate_rounds.proofs.rounds.binding.put_for.Goals as goal

pub head-requires : goal.head-requires
head-requires c = rw c.number.ensures (arg-below c.args.cx.now.trees c.args.arg c.requires)

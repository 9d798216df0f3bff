use Rattle.ir_trees.proofs.Traversal.Asking.{arg-below}
use Rattle.candidate_rounds.proofs.rounds.values.is_alias.Goals as goal

pub head-head-requires : goal.head-head-requires
head-head-requires c = rw c.number.ensures (arg-below c.args.cx.now.trees c.args.arg c.requires)

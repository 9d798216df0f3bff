use Rattle.std.proofs.Common.{refl}
use Rattle.ir_trees.specs.Syntax.Trees.{ClauseKind}
use Rattle.ir_trees.proofs.Syntax.Lists.{below_kind}
use Rattle.ir_folds.proofs.decl.elaborate.trait_of.Goals as goal

pub head-requires : goal.head-requires
head-requires c = below_kind c.args.cx.now.trees c.args.clause.0 ClauseKind refl c.requires

use Rattle.std.proofs.Common.{refl}
use Rattle.ir_trees.specs.Syntax.Trees.{PredicateKind}
use Rattle.ir_trees.proofs.Syntax.Lists.{below_kind}
use Rattle.candidate_assembly.proofs.assembly.dyn_bounds.is_principal.Goals as goal

pub head-requires : goal.head-requires
head-requires c = below_kind c.args.cx.now.trees c.args.bound.0 PredicateKind refl c.requires

use Rattle.std.proofs.Common.{refl}
use Rattle.ir_trees.specs.Syntax.Trees.{TypeKind}
use Rattle.ir_trees.proofs.Syntax.Lists.{below_kind}
use Rattle.candidate_assembly.proofs.assembly.object_bounds.has_own_clauses.Goals as goal

pub head-requires : goal.head-requires
head-requires c = below_kind c.args.cx.now.trees c.args.ty.0 TypeKind refl c.requires

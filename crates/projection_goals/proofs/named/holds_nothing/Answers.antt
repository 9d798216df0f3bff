use Rattle.std.proofs.Common.{refl}
use Rattle.ir_trees.specs.Syntax.Trees.{TypeKind}
use Rattle.ir_trees.proofs.Syntax.Lists.{below_kind}
use Rattle.projection_goals.proofs.named.holds_nothing.Goals as goal

pub child-requires : goal.child-requires
child-requires c = below_kind c.args.cx.now.trees c.args.ty.0 TypeKind refl c.requires

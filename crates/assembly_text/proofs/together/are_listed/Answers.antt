use Rattle.std.proofs.Common.{refl}
use Rattle.ir_trees.specs.Syntax.Trees.{ArgumentsKind}
use Rattle.ir_trees.proofs.Syntax.Lists.{below_kind}
use Rattle.assembly_text.proofs.together.are_listed.Goals as goal

pub are_children_listed-requires : goal.are_children_listed-requires
are_children_listed-requires c = below_kind c.args.cx.now.trees c.args.args.0 ArgumentsKind refl c.requires

use Rattle.std.proofs.Common.{refl}
use Rattle.ir_trees.specs.Syntax.Trees.{TypeKind}
use Rattle.ir_trees.proofs.Syntax.Lists.{below_kind}
use Rattle.assembly_notation.proofs.counting.has_few_words.Goals as goal

pub add_tree-requires-clause-number : goal.add_tree-requires-clause-number
add_tree-requires-clause-number c = below_kind c.args.cx.now.trees c.args.ty.0 TypeKind refl c.requires

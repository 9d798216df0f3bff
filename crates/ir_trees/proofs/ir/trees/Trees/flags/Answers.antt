use Rattle.ir_trees.specs.Syntax.Trees.{TypeKind}
use Rattle.std.proofs.Common.{refl}
use Rattle.ir_trees.proofs.Syntax.Lists.{below_kind}
use Rattle.ir_trees.proofs.ir.trees.Trees.flags.Goals as goal

pub marks-marks-requires : goal.marks-marks-requires
marks-marks-requires g c = below_kind _ _ TypeKind refl c.requires

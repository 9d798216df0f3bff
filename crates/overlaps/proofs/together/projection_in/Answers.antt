use Rattle.std.proofs.Common.{refl}
use Rattle.ir_trees.specs.Syntax.Trees.{ClauseKind}
use Rattle.ir_trees.proofs.Syntax.Lists.{below_kind}
use Rattle.overlaps.specs.Together.{here}
use Rattle.overlaps.proofs.Jointly.{stands-below}
use Rattle.overlaps.proofs.together.projection_in.Goals as goal

pub loop-step-init : goal.loop-step-init
loop-step-init c = (below_kind c.args.cx.now.trees c.args.clause.0 ClauseKind refl c.requires, here)

pub loop-step-preserved : goal.loop-step-preserved
loop-step-preserved c = (c.in-Some.ensures.number, stands-below c.in-Some.ensures.stands c.loop-step.invariant.1)

use Rattle.std.proofs.Common.{◌+◌}
use Rattle.ir_trees.specs.Calls.Walked.{HoldBack}
use Rattle.ir_trees.proofs.Syntax.Escapes.{SameFrom}
use Rattle.ir_trees.proofs.ir.walks.+escapes_unless_walked.Given as goal

abbrev pub decreases-escapes_unless_walked : goal.decreases-escapes_unless_walked
decreases-escapes_unless_walked g l = l.number

abbrev pub invariant-loop-i : goal.invariant-loop-i
invariant-loop-i g l = SameFrom (l.passed + l.more) (g.T.Trees.trees l.trees) l.node l.i × HoldBack (g.T.Trees.trees l.trees) l.walked

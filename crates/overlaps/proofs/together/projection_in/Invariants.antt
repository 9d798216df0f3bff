use Rattle.std.proofs.Common.{◌<◌, length}
use Rattle.ir_trees.specs.Syntax.Nodes.{tree_at}
use Rattle.ir_trees.specs.Syntax.Words.{clause_tree}
use Rattle.ir_trees.specs.Unification.Substitutions.{alone}
use Rattle.overlaps.specs.Together.{StandsIn}
use Rattle.overlaps.proofs.together.projection_in.Given as goal

-- the number stands in the clause
abbrev pub invariant-loop-step : goal.invariant-loop-step
invariant-loop-step l =
    let ts = l.fn.cx.trees in l.number < length ts × StandsIn (tree_at ts l.number) (alone (clause_tree ts l.fn.clause))

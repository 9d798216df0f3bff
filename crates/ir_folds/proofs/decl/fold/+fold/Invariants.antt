use Rattle.std.proofs.Common.{◌+◌, ◌*◌}
use Rattle.std.specs.Prelude.{map}
use Rattle.ir_trees.specs.Syntax.Kinds.{numbers}
use Rattle.ir_trees.specs.Syntax.Nodes.{children_of, head_of, pred_child}
use Rattle.ir_trees.specs.Syntax.Trees.{binders_of}
use Rattle.ir_folds.proofs.Traversal.FoldSteps.{ChildrenSoFar}
use Rattle.ir_folds.proofs.Traversal.FoldBounds.{BoundsSoFar}
use Rattle.ir_folds.proofs.decl.fold.+fold.Given as goal

abbrev pub decreases-fold_children : goal.decreases-fold_children
decreases-fold_children g l = 3 * l.number

abbrev pub decreases-fold_bounds : goal.decreases-fold_bounds
decreases-fold_bounds g l = 3 * l.number + 1

abbrev pub decreases-fold_number : goal.decreases-fold_number
decreases-fold_number g l = 3 * l.number + 2

abbrev pub invariant-fold_children-loop-i : goal.invariant-fold_children-loop-i
invariant-fold_children-loop-i g l =
    ChildrenSoFar g.M.Build.context g.M.Build.rest g.F.FnMut (l.fn.fold, l.fn.make) (l.binders + binders_of (head_of l.node)) (numbers (children_of l.node))
    l.children.items l.i (l.fold, l.make)

abbrev pub invariant-fold_bounds-loop-i : goal.invariant-fold_bounds-loop-i
invariant-fold_bounds-loop-i g l =
    BoundsSoFar g.M.Build.context g.M.Build.rest g.F.FnMut (l.fn.fold, l.fn.make) l.binders (numbers (map pred_child l.list)) l.bounds.items l.i (l.fold, l.make)

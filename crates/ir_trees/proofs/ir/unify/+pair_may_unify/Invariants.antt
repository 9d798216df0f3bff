use Rattle.std.proofs.Common.{◌≡◌, drop}
use Rattle.ir_trees.specs.Calls.Walked.{MayUnify}
use Rattle.ir_trees.specs.Syntax.Kinds.{numbers}
use Rattle.ir_trees.specs.Syntax.Nodes.{trees_at, children_of}
use Rattle.ir_trees.proofs.Unification.Pairs.{all_may}
use Rattle.ir_trees.proofs.ir.unify.+pair_may_unify.Given as goal

abbrev pub decreases-pair_may_unify : goal.decreases-pair_may_unify
decreases-pair_may_unify g l = l.a

abbrev pub invariant-loop-i : goal.invariant-loop-i
invariant-loop-i g l =
    let ks = numbers (children_of l.first) in
    let js = numbers (children_of l.second) in
    (all_may l.right (trees_at (g.T.Trees.trees l.trees) ks) (trees_at (g.T.Trees.trees l.trees) js) ≡ all_may l.right (trees_at (g.T.Trees.trees l.trees) (drop l.i ks)) (trees_at (g.T.Trees.trees l.trees) (drop l.i js)))
    × MayUnify l.right (g.T.Trees.trees l.trees) l.walked

use Rattle.std.proofs.Common.{◌≡◌, ◌≤◌, ◌++◌}
use Rattle.ir_trees.specs.Syntax.Nodes.{tree_at}
use Rattle.ir_trees.specs.Syntax.Trees.{count, skip}
use Rattle.candidate_eval.specs.Dynamic.Replacing.{AreProjections, finds_own, projections, projections_at}
use Rattle.candidate_eval.proofs.objects.replacing.+push_projections.Given as goal

abbrev pub decreases-push_projections : goal.decreases-push_projections
decreases-push_projections l = l.number

-- the projections in the trees before are found
abbrev pub invariant-loop-place : goal.invariant-loop-place
invariant-loop-place l =
    let ts = l.cx.trees in
    let below = (tree_at ts l.number).children in
    let f = finds_own ts l.fn.object l.fn.bounds in
    (l.place ≤ count below) × AreProjections ts l.found.items × (projections_at ts l.fn.found.items ++ projections f below ≡ projections_at ts l.found.items ++ projections f (skip l.place below))

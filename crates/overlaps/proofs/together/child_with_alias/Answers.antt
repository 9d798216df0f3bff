use Rattle.std.proofs.Common.{rules, suc}
use Rattle.ir_trees.specs.Instantiation.Results.{IsChildAt}
use Rattle.ir_trees.specs.Syntax.Nodes.{tree_at}
use Rattle.ir_trees.specs.Syntax.Trees.{skip}
use Rattle.overlaps.proofs.Jointly.{stands-at}
use Rattle.overlaps.proofs.together.child_with_alias.Goals as goal

pub returns-then-has-clause-stands : goal.returns-then-has-clause-stands
returns-then-has-clause-stands c =
    let ts = c.args.cx.now.trees in
    let n = c.args.number in
    let place = c.loop-place.place in
    let h : IsChildAt ts n place c.in_ok-child.child = search rules in
    stands-at (tree_at ts c.in_ok-child.child) place (tree_at ts n).children (skip (suc place) (tree_at ts n).children) h.1

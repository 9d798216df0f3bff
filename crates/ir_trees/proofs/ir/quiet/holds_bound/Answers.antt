use Rattle.std.proofs.Common.{◌∙◌}
use Rattle.std.specs.Prelude.{◌||◌}
use Rattle.ir_trees.specs.declared.ir.heads.Flag.TheVariants as F
use Rattle.ir_trees.specs.Syntax.Nodes.{tree_at}
use Rattle.ir_trees.proofs.Instantiation.Quiet.{bound-tree}
use Rattle.ir_trees.proofs.ir.quiet.holds_bound.Goals as goal

pub returns : goal.returns
returns g c =
    let ty = c.marks.ensures F.TyBound in
    let region = c.marks.ensures F.RegionBound in
    let constant = c.marks.ensures F.ConstBound in
    c.has_bound.ensures ∙ ((λ i. ty i || (region i || constant i)) ∙ bound-tree (tree_at (g.T.Trees.trees c.args.trees.now) c.args.number))

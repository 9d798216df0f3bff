use Rattle.ir_trees.specs.Syntax.Words.{ty_tree}
use Rattle.candidate_assembly.proofs.Objects.BoundClauses.{dyn-bounds, dyn-region}
use Rattle.candidate_assembly.proofs.assembly.dyn_bounds.dyn_parts.Goals as goal

pub returns-clause-bounds : goal.returns-clause-bounds
returns-clause-bounds c = dyn-bounds c.args.cx.now.trees c.in-Dynamic.bounds c.in-Dynamic.region (ty_tree c.args.cx.now.trees c.args.ty) c.in-Dynamic.ensures.fits c.in-Dynamic.ensures.tree

pub returns-clause-region_tree : goal.returns-clause-region_tree
returns-clause-region_tree c = dyn-region c.args.cx.now.trees c.in-Dynamic.bounds c.in-Dynamic.region (ty_tree c.args.cx.now.trees c.args.ty) c.in-Dynamic.ensures.fits c.in-Dynamic.ensures.tree

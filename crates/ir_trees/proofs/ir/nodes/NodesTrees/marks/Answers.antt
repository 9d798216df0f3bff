use Rattle.ir_trees.proofs.ir.nodes.NodesTrees.marks.Goals as goal

pub returns : goal.returns
returns c = c.kept.ensures.marks

use Rattle.ir_trees.proofs.Syntax.Equal.{clash}
use Rattle.ir_trees.proofs.Syntax.Shapes.{shape-is, shape-answer, same-length, child-count}
use Rattle.ir_trees.proofs.ir.node.NodePartialEq.eq.Goals as goal

pub has_children_of-requires : goal.has_children_of-requires
has_children_of-requires c = same-length _ _ (c.has_root_of.ensures.0 c.if-has_root_of.true).1

pub returns-then-has_root_of : goal.returns-then-has_root_of
returns-then-has_root_of c =
    shape-answer c.args.self.now c.args.other.now c.has_children_of.result
    (λ h. ((c.has_root_of.ensures.0 c.if-has_root_of.true).0, c.has_children_of.ensures.0 h))
    (λ h. c.has_children_of.ensures.1 (shape-is c.args.self.now c.args.other.now h).1)

pub returns-else-has_root_of : goal.returns-else-has_root_of
returns-else-has_root_of c =
    shape-answer c.args.self.now c.args.other.now c.has_root_of.result
    (λ h. clash _ h c.if-has_root_of.false)
    (λ h. let p = shape-is c.args.self.now c.args.other.now h in c.has_root_of.ensures.1 (p.0, child-count _ _ p.1))

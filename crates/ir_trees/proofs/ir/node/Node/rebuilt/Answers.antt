use Rattle.std.proofs.Common.{ap}
use Rattle.ir_trees.specs.Syntax.Nodes.{children_of}
use Rattle.ir_trees.proofs.Traversal.Rebuild.{clauses-again}
use Rattle.ir_trees.proofs.ir.node.Node.rebuilt.Goals as goal

pub returns-in_ok-clauses_of-in-Clauses-clause-sorts : goal.returns-in_ok-clauses_of-in-Clauses-clause-sorts
returns-in_ok-clauses_of-in-Clauses-clause-sorts c =
    clauses-again c.args.self.now c.in_ok-clauses_of-in-Clauses.field-0.items c.in-Clauses.field-0.items c.args.children.now
    (ap children_of c.in-Clauses.is) c.in_ok-clauses_of-in-Clauses.ensures c.requires.count

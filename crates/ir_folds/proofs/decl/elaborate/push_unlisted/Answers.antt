use Rattle.ir_context.proofs.Hierarchy.Listing.{inserted}
use Rattle.ir_folds.proofs.decl.elaborate.push_unlisted.Goals as goal

pub returns-clause-fit : goal.returns-clause-fit
returns-clause-fit c = (inserted c.args.cx.now.trees c.args.list.now.keys c.insert.new.self.keys c.args.clause c.recall_distinct.ensures c.requires.clause c.requires.list c.in_ok-insert.ensures.keys).0

pub returns-clause-trees : goal.returns-clause-trees
returns-clause-trees c = (inserted c.args.cx.now.trees c.args.list.now.keys c.insert.new.self.keys c.args.clause c.recall_distinct.ensures c.requires.clause c.requires.list c.in_ok-insert.ensures.keys).1

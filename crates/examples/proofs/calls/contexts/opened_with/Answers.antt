use Rattle.ir_trees.proofs.Growth.Made.{IsClause-grows}
use Rattle.examples.proofs.calls.contexts.opened_with.Goals as goal

pub open_clause-requires-clause-clause : goal.open_clause-requires-clause-clause
open_clause-requires-clause-clause c = IsClause-grows _ _ c.args.clause c.mk_args.ensures.made.kept c.requires.clause

use Rattle.ir_context.proofs.Hierarchy.Listing.{EachOnce}
use Rattle.ir_folds.proofs.decl.elaborate.each_once.Given as goal

abbrev pub invariant-loop-clause : goal.invariant-loop-clause
invariant-loop-clause l = EachOnce l.cx.trees l.fn.clauses l.clause-index l.list.keys

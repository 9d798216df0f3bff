use Rattle.ir_folds.proofs.Hierarchy.Choosing.{Chosen}
use Rattle.ir_folds.proofs.decl.elaborate.trait_clauses.Given as goal

abbrev pub invariant-loop-clause : goal.invariant-loop-clause
invariant-loop-clause l = Chosen l.cx.trees l.fn.list l.clause-index l.chosen.items

use Rattle.ir_folds.proofs.Hierarchy.Numbering.{Numbered}
use Rattle.ir_folds.proofs.decl.elaborate.traits_of.Given as goal

abbrev pub invariant-loop-clause : goal.invariant-loop-clause
invariant-loop-clause l = Numbered l.cx.trees l.fn.list l.clause-index l.ids.items

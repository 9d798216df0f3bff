use Rattle.ir_folds.proofs.Instantiation.Joining.{KindsSoFar}
use Rattle.ir_folds.proofs.decl.elaborate.add_kinds.Given as goal

-- the kinds of those before are added
abbrev pub invariant-loop-var : goal.invariant-loop-var
invariant-loop-var l = KindsSoFar l.cx.trees l.var-items l.fn.kinds.items l.var-index l.kinds.items

use Rattle.ir_trees.specs.Syntax.Words.{env_forest}
use Rattle.overlaps.proofs.Typed.{HeldSoFar}
use Rattle.overlaps.proofs.specializing.first_not_held.Given as goal

-- those before hold
abbrev pub invariant-loop-i : goal.invariant-loop-i
invariant-loop-i l = HeldSoFar l.fn.rounds l.rounds (env_forest l.fn.rounds.context.trees l.fn.env) l.fn.left l.i

use Rattle.ir_trees.specs.Syntax.Words.{env_forest}
use Rattle.overlaps.proofs.Typed.{TakenSoFar}
use Rattle.overlaps.proofs.specializing.take_up_all.Given as goal

-- those before were taken up, and these are left of them
abbrev pub invariant-loop-number : goal.invariant-loop-number
invariant-loop-number l = TakenSoFar l.fn.rounds l.rounds (env_forest l.fn.rounds.context.trees l.fn.env) l.fn.clauses l.left.items l.number

use Rattle.std.specs.Prelude.{map, take}
use Rattle.ir_trees.specs.Syntax.Words.{clause_tree}
use Rattle.candidate_rounds.specs.Calls.Leaking.{AreSaid}
use Rattle.candidate_rounds.proofs.rounds.leaking.all_outlives.Given as goal

abbrev pub invariant-loop-i : goal.invariant-loop-i
invariant-loop-i l = AreSaid (map (clause_tree l.fn.cx.trees) (take l.i l.fn.clauses)) l.list.items

use Rattle.ir_trees.specs.Syntax.Words.{clause_tree}
use Rattle.candidate_rounds.specs.Calls.Walking.{AreUpTo}
use Rattle.candidate_rounds.proofs.Table.Keying.{IsGreatestIn}
use Rattle.candidate_rounds.proofs.rounds.keys.greatest_in.Given as goal

abbrev pub invariant-loop-i : goal.invariant-loop-i
invariant-loop-i l = IsGreatestIn (clause_tree l.cx.trees) l.universe l.clauses l.i l.greatest × AreUpTo l.greatest l.cx.trees l.walked

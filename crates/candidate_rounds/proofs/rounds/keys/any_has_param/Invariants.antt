use Rattle.std.proofs.Common.{not}
use Rattle.ir_trees.specs.Syntax.Words.{clause_tree}
use Rattle.rounds_judge.specs.Table.GoalTable.{has_parameter}
use Rattle.candidate_rounds.proofs.Table.Keying.{IsAllTo}
use Rattle.candidate_rounds.proofs.rounds.keys.any_has_param.Given as goal

abbrev pub invariant-loop-i : goal.invariant-loop-i
invariant-loop-i l = IsAllTo (λ t. not (has_parameter t)) (clause_tree l.cx.trees) l.clauses l.i

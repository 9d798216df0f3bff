use Rattle.std.proofs.Common.{[]}
use Rattle.ir_trees.specs.Syntax.Words.{args_forest}
use Rattle.rounds_judge.specs.Obligations.Responding.{with_numbers}
use Rattle.candidate_rounds.specs.Calls.Walking.{AreGathered}
use Rattle.candidate_rounds.proofs.Obligations.Places.{IsNoted}
use Rattle.candidate_rounds.proofs.rounds.responding.numbers_of.Given as goal

abbrev pub invariant-loop-i : goal.invariant-loop-i
invariant-loop-i l = IsNoted l.cx.trees (with_numbers [] (args_forest l.cx.trees l.fn.args)) l.clauses l.i l.numbers.items × AreGathered l.numbers.items l.cx.trees l.walked

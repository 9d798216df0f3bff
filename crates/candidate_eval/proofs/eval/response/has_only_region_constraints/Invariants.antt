use Rattle.std.proofs.Common.{◌≡◌, drop}
use Rattle.ir_trees.specs.Syntax.Words.{list_forest}
use Rattle.candidate_eval.specs.Outcomes.Responses.{are_open}
use Rattle.candidate_eval.proofs.eval.response.has_only_region_constraints.Given as goal

-- the values before are each the variable of its number
abbrev pub invariant-loop-i : goal.invariant-loop-i
invariant-loop-i l = are_open 0 (list_forest l.cx.trees l.values) ≡ are_open l.i (list_forest l.cx.trees (drop l.i l.values))

use Rattle.ir_trees.specs.Instantiation.Folds.{arg_tree}
use Rattle.candidate_rounds.proofs.Equations.OpenParts.{IsFoundFrom}
use Rattle.candidate_rounds.proofs.rounds.opening.variable_for.Given as goal

abbrev pub invariant-loop-i : goal.invariant-loop-i
invariant-loop-i l = IsFoundFrom l.cx.trees l.parts l.variables (arg_tree l.cx.trees l.arg) l.i

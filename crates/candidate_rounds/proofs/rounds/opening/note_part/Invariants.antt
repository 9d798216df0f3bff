use Rattle.ir_trees.specs.Instantiation.Folds.{arg_tree}
use Rattle.candidate_rounds.proofs.Equations.OpenParts.{IsAmongFrom}
use Rattle.candidate_rounds.proofs.rounds.opening.note_part.Given as goal

abbrev pub invariant-loop-i : goal.invariant-loop-i
invariant-loop-i l = IsAmongFrom l.cx.trees l.parts.items (arg_tree l.cx.trees l.part) l.i

-- What stands in the place of types, constants and regions while values, or listed types, are put in.
use Rattle.std.specs.Prelude.{None, List, if◌then◌else◌}
use Rattle.std.specs.Option.{option_map}
use Rattle.ir_trees.specs.declared.ir.kinds.Ty.{Ty}
use Rattle.ir_trees.specs.Instantiation.Folding.{Answers}
use Rattle.ir_trees.specs.Instantiation.Folds.{arg_tree, is_asked}
use Rattle.ir_trees.specs.Syntax.Trees.{Tree}
use Rattle.candidate_rounds.specs.Evaluators.Inferences.{Inference, kept_at}
use Rattle.candidate_rounds.specs.Evaluators.Known.{listing_of}
use Rattle.rounds_judge.specs.Aliases.Listed.{listed}

-- the value of the variable that is the tree's root
abbrev pub kept_answers : List Tree → Inference → Answers
kept_answers ts s d t = option_map (arg_tree ts) (kept_at s t.head)

-- the type that is listed for the tree, which is asked for types, constants and regions alone
abbrev pub listed_answers : List Tree → List (Ty × Ty) → Answers
listed_answers ts ps d t = if is_asked t.head then listed (listing_of ts ps) t else None

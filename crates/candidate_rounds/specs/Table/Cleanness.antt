-- Goals and listed types in which no region is an error.
use Rattle.std.specs.Prelude.{◌≡◌, Bool, false, List}
use Rattle.ir_trees.specs.declared.ir.kinds.Ty.{Ty}
use Rattle.ir_trees.specs.Syntax.Trees.{Tree, tree_holds}
use Rattle.ir_trees.specs.Syntax.Words.{clause_tree, ty_tree}
use Rattle.derivations.specs.Clean.{is_error_region}
use Rattle.candidate_rounds.specs.declared.rounds.goals.GoalKey.{GoalKey}

-- whether a region that is an error stands in what the goal of a key says
abbrev pub has_error : List Tree → GoalKey → Bool
has_error ts k = tree_holds is_error_region (clause_tree ts k.goal.predicate)

-- None stands in the type that is listed for an alias.
abbrev pub IsWithoutError : List Tree → Ty × Ty → Type 0
IsWithoutError ts p = tree_holds is_error_region (ty_tree ts p.1) ≡ false

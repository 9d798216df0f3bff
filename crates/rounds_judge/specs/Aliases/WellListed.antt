-- Pairs that may be listed.
use Rattle.std.specs.Prelude.{Bool, ◌&&◌, not, [], ◌∷◌, List, if◌then◌else◌}
use Rattle.ir_trees.specs.declared.ir.heads.Flag.TheVariants as F
use Rattle.ir_trees.specs.Syntax.Binders.{escapes}
use Rattle.ir_trees.specs.Syntax.Flags.{mark}
use Rattle.ir_trees.specs.Unification.Substitutions.{alone}
use Rattle.ir_trees.specs.Syntax.Trees.{Tree, holds, is_alias, is_param, is_type}
use Rattle.rounds_judge.specs.Aliases.Listed.{Listing}
use Rattle.rounds_judge.specs.Equations.Standing.{is_made}

-- An alias, and a type without aliases, which mean the same at every state and have no error.

abbrev pub is_fixed : Tree → Bool
is_fixed t = not (escapes 0 (alone t)) && (not (holds is_made (alone t)) && (not (holds is_param (alone t)) && not (holds (mark F.Error) (alone t))))

abbrev pub may_be_listed : Tree × Tree → Bool
may_be_listed p = is_fixed p.0 && (is_fixed p.1 && (is_type p.1.head && (not (holds is_alias (alone p.1)) && is_alias p.0.head)))

-- Those of these pairs that may be listed. Of the pairs that an evaluator is given all may.
abbrev pub which_may_be : List (Tree × Tree) → List (Tree × Tree)
which_may_be [] = []
which_may_be (p ∷ ps) = if may_be_listed p then p ∷ which_may_be ps else which_may_be ps

abbrev pub well_listed : Listing → Listing
well_listed l = record l { pairs = which_may_be l.pairs }

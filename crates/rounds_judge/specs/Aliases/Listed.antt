-- Aliases that are listed with the types that they are normalised to.
use Rattle.std.specs.Prelude.{Bool, Option, Some, None, List, [], ◌∷◌, if◌then◌else◌}
use Rattle.std.specs.Option.{unwrap_or}
use Rattle.ir_trees.specs.Syntax.Trees.{Tree, is_alias}
use Rattle.ir_trees.specs.Instantiation.Folding.{fold_tree}
use Rattle.ir_trees.specs.Hierarchy.Elaboration.{same_tree}
use Rattle.candidate_eval.specs.Judges.States.{State, resolved_tree}
use Rattle.candidate_eval.specs.Interface.Evaluators.{resolved_root}

-- Pairs of an alias and its type, in their order; and whether an alias that none of them lists is open in coherence: it may be any type.
pub record Listing : Type 0 where
  pub pairs : List (Tree × Tree)
  pub is_open : Bool

-- the type of the first pair that lists the tree
abbrev pub listed_in : List (Tree × Tree) → Tree → Option Tree
listed_in [] t = None
listed_in (p ∷ ps) t = if same_tree p.0 t then Some p.1 else listed_in ps t

abbrev pub listed : Listing → Tree → Option Tree
listed l t = listed_in l.pairs t

-- The tree with each listed alias replaced by its type, from the top.
abbrev pub normalized_tree : Listing → Tree → Tree
normalized_tree l t = fold_tree (λ d u. listed l u) 0 t

-- What the tree is at a state, so far as its root says: a variable is its value, and a listed alias is its type. Whether an
-- alias is listed is asked of the alias with all values put in.

abbrev pub listed_at : Listing → State → Tree → Tree
listed_at l S t = if is_alias t.head then unwrap_or (listed l (resolved_tree S t)) t else t

abbrev pub current : Listing → State → Tree → Tree
current l S t = listed_at l S (resolved_root S t)

-- Equations of sides in which aliases may be open: a fresh variable stands for each open part, and the goals are left that both are one.
use Rattle.std.specs.Prelude.{Bool, ◌&&◌, ◌||◌, Option, Some, List, [], if◌then◌else◌}
use Rattle.ir_trees.specs.Instantiation.Folding.{fold}
use Rattle.ir_trees.specs.Syntax.Trees.{Forest, Tree, holds, is_alias}
use Rattle.candidate_eval.specs.Judges.Modes.{is_coherence}
use Rattle.candidate_eval.specs.Judges.States.{Env, State, Pending, fresh_variables, next, resolved, with_fresh_variables}
use Rattle.rounds_judge.specs.Aliases.Listed.{Listing, listed}
use Rattle.rounds_judge.specs.Aliases.OpenParts.{all_to_be, kinds_of, opened, paired, with_parts}
use Rattle.rounds_judge.specs.Equations.Equating.{equated, without_goals}

abbrev pub are_open : Listing → State → Bool
are_open l S = l.is_open && is_coherence S.mode

-- the trees with all values put in, and listed types in the place of their aliases
abbrev pub readied : Listing → State → Forest → Forest
readied l S ts = fold (λ d u. listed l u) 0 (resolved S ts)

-- What both sides of an equation are opened by: their open parts, each once, with a fresh variable for each.
pub record Opened : Type 0 where
  pub parts : List Tree
  pub pairs : List (Tree × Tree)
  pub state : State

abbrev pub opened_by : State → List Tree → Opened
opened_by S ps = record { parts = ps; pairs = paired ps (fresh_variables S (kinds_of ps)); state = with_fresh_variables S (kinds_of ps) }

abbrev pub opening : Listing → State → Forest → Forest → Opened
opening l S a b = opened_by S (with_parts (with_parts [] (readied l S a)) (readied l S b))

-- the goals that each part and its variable are one, and the state in which the sides are equal, if they can be
abbrev pub equated_openly : Listing → State → Env → Forest → Forest → Option (List Pending × State)
equated_openly l S e a b =
    let o = opening l S a b in
    next (equated l o.state (opened o.pairs (readied l S a)) (opened o.pairs (readied l S b))) (λ T. Some (all_to_be e o.pairs, T))

-- An alias stands on one of the sides once all values are put in.
abbrev pub has_alias : State → Forest → Forest → Bool
has_alias S a b = holds is_alias (resolved S a) || holds is_alias (resolved S b)

-- The goals that an equation leaves, and the state, if the sides can be made equal.
abbrev pub equation : Listing → State → Env → Forest → Forest → Option (List Pending × State)
equation l S e a b = if are_open l S && has_alias S a b then equated_openly l S e a b else without_goals (equated l S a b)

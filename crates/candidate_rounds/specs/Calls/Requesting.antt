-- Which goals a round asks for.
use Rattle.std.specs.Prelude.{Bool, not, ◌&&◌, List, [], ◌∷◌, ◌++◌, if◌then◌else◌}
use Rattle.std.specs.List.{list_any}
use Rattle.candidate_rounds.specs.Table.Goals.{Via, keys_seen}
use Rattle.candidate_rounds.specs.Evaluators.Known.{Evaluator, table_of}
use Rattle.rounds_judge.specs.Table.GoalTable.{GoalTable, is_entered, may_be_asked}
use Rattle.rounds_judge.specs.Table.Keys.{Key, same_key}

-- Whether the goal of a key is asked for where it is met: a round is being done, the table doesn't have the goal, it may be computed, and it
-- isn't asked for yet.
abbrev pub is_requested : Bool → GoalTable Via → List Key → Key → Bool
is_requested asks T ks k = asks && (not (is_entered T k) && (may_be_asked k && not (list_any (λ x. same_key x k) ks)))

-- What is asked for then.
abbrev pub requested : Bool → GoalTable Via → List Key → Key → List Key
requested asks T ks k = if is_requested asks T ks k then ks ++ k ∷ [] else ks

-- The same at an evaluator, by the trees of its numbers.

abbrev pub asked_of : Evaluator → List Key
asked_of r = keys_seen r.context.trees r.goals.asked

abbrev pub is_requested_at : Evaluator → Key → Bool
is_requested_at r k = is_requested r.goals.asks (table_of r) (asked_of r) k

abbrev pub requested_at : Evaluator → Key → List Key
requested_at r k = requested r.goals.asks (table_of r) (asked_of r) k

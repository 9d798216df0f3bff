-- The goals of an evaluator by their numbers: those of its table, and after them those that were asked for.
use Rattle.std.specs.Prelude.{◌≡◌, ◌≤◌, ℕ, zero, suc, Bool, true, false, Option, Some, None, List, [], ◌∷◌, map, length, slice_get, take, drop}
use Rattle.std.specs.Map.{keys_of}
use Rattle.candidate_rounds.specs.declared.rounds.goals.GoalKey.{GoalKey}
use Rattle.candidate_rounds.specs.declared.rounds.goals.Slot.{Slot}
use Rattle.candidate_rounds.specs.declared.rounds.writing.Written.{Written}
use Rattle.candidate_rounds.specs.Table.KeyNumbers.{same_numbers}

-- a goal, and what is known of it
abbrev pub GoalEntry : Type 0
GoalEntry = GoalKey × Slot

-- whether what is written for a goal, if there is one, may rest on a region that leaks
abbrev pub maybe_leaks : Option GoalEntry → Bool
maybe_leaks None = false
maybe_leaks (Some e) = e.1.leaks

-- nothing is known
abbrev pub new_slot : Slot
new_slot = record { verdict = None; is_readable = true; leaks = false }

abbrev pub new_entry : GoalKey → GoalEntry
new_entry k = (k, new_slot)

-- the first goal that has the numbers of the key has that place
abbrev pub IsNumberedAt : GoalKey → List GoalEntry → ℕ → Type 0
IsNumberedAt k [] n = ⊥
IsNumberedAt k (e ∷ es) zero = same_numbers k e.0 ≡ true
IsNumberedAt k (e ∷ es) (suc n) = (same_numbers k e.0 ≡ false) × IsNumberedAt k es n

-- The first so many goals are those of the table, and the others were asked for.

abbrev pub table_in : ℕ → List GoalEntry → List GoalEntry
table_in n es = take n es

abbrev pub asked_in : ℕ → List GoalEntry → List GoalKey
asked_in n es = keys_of (drop n es)

-- There are so many, and nothing is known of those after them.
pub record AreAsked (n : ℕ) (es : List GoalEntry) : Type 0 where
  pub enough : n ≤ length es
  pub unknown : drop n es ≡ map new_entry (asked_in n es)

-- The goals with what a round has for them.

abbrev pub write_verdict : GoalEntry → Option Written → GoalEntry
write_verdict e None = e
write_verdict e (Some w) = (e.0, record { verdict = Some w.verdict; is_readable = w.is_readable; leaks = w.leaks })

abbrev pub all_written_into : List GoalEntry → List (Option Written) → List GoalEntry
all_written_into [] ws = []
all_written_into (e ∷ es) [] = e ∷ es
all_written_into (e ∷ es) (w ∷ ws) = write_verdict e w ∷ all_written_into es ws

-- whether what is written for the goal of a place may rest on a region that leaks
abbrev pub leaks_at : List GoalEntry → ℕ → Bool
leaks_at es n = maybe_leaks (slice_get es n)

-- whether a round has something for a place
abbrev pub has_one : Option (Option Written) → Bool
has_one (Some (Some w)) = true
has_one _ = false

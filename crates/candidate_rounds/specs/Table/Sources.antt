-- By which sources the steps of a derivation hold, each where what the steps that it names say is known, and nothing else.
use Rattle.std.specs.Prelude.{◌≡◌, ℕ, true, false, Some, None, List, [], ◌∷◌, ◌++◌, map, slice_get, take, if◌then◌else◌}
use Rattle.std.specs.List.{Contains, fold}
use Rattle.ir_trees.specs.Syntax.Trees.{Tree}
use Rattle.candidate_eval.specs.declared.eval.certainty.Certainty.TheVariants.{Yes}
use Rattle.candidate_eval.specs.declared.eval.response.Candidate.{Candidate as OfNumbers}
use Rattle.candidate_eval.specs.Outcomes.ResponseTrees.{candidates_of, response_of}
use Rattle.candidate_eval.specs.Outcomes.Responses.{Candidate}
use Rattle.rounds_judge.specs.Table.GoalTable.{GoalTable, is_entered, may_be_asked}
use Rattle.candidate_rounds.specs.declared.rounds.derivation.DerivationStep.{DerivationStep}
use Rattle.candidate_rounds.specs.declared.rounds.goals.GoalKey.{GoalKey}
use Rattle.candidate_rounds.specs.Evaluators.Known.{Evaluator}
use Rattle.candidate_rounds.specs.Table.Cleanness.{has_error}
use Rattle.candidate_rounds.specs.Table.Goals.{Each, Via, key_seen}
use Rattle.candidate_rounds.specs.Table.Running.{StaysBesideTable}
use Rattle.candidate_rounds.specs.Table.Steps.{IsListed, IsStep, step_entry}

-- What a step says is entered, unless the table has its goal.
abbrev pub with_step : List Tree → GoalTable Via → DerivationStep → GoalTable Via
with_step ts T s = if is_entered T (key_seen ts s.key) then T else T ++ step_entry ts s ∷ []

-- The table of what these steps say and of nothing else: each goal once, as the first of them says that is for it.
abbrev pub table_by : List Tree → List DerivationStep → GoalTable Via
table_by ts ss = fold (with_step ts) [] ss

-- these places of a list have these steps
abbrev pub AreAt : List DerivationStep → List ℕ → List DerivationStep → Type 0
AreAt ss places named = map (slice_get ss) places ≡ map Some named

-- the candidate that a step says there is, by its source and with its response
abbrev pub candidate_said : List Tree → DerivationStep → Candidate
candidate_said ts s = record { source = s.source; result = response_of ts s.response }

-- The table of what the steps of these places say and of nothing else.
pub record IsTableAt (ts : List Tree) (ss : List DerivationStep) (places : List ℕ) (T : GoalTable Via) : Type 0 where
  pub named : List DerivationStep
  pub are_at : AreAt ss places named
  pub table : T ≡ table_by ts named

-- The candidates for the goal of a key where what the steps of these places say is known, and nothing else. The goal may be asked.
pub record AreListedBy (r : Evaluator) (ss : List DerivationStep) (places : List ℕ) (k : GoalKey) (xs : List Candidate) : Type 0 where
  pub table : GoalTable Via
  pub entered : IsTableAt r.context.trees ss places table
  pub asked : may_be_asked (key_seen r.context.trees k) ≡ true
  pub list : IsListed r table (key_seen r.context.trees k) xs

-- A step is by its source, over those before it: it is sure, and one of the candidates for its goal is what it says, where what the steps
-- that it names say is known, and nothing else.
pub record IsBySource (r : Evaluator) (before : List DerivationStep) (s : DerivationStep) : Type 0 where
  pub candidates : List Candidate
  pub listed : AreListedBy r before s.nested.items s.key candidates
  pub among : Contains candidates (candidate_said r.context.trees s)
  pub sure : s.response.certainty ≡ Yes

-- each of the steps, over those before it
abbrev pub AreBySource : Evaluator → List DerivationStep → Type 0
AreBySource r ss = (place : ℕ) (s : DerivationStep) → slice_get ss place ≡ Some s → IsBySource r (take place ss) s

-- Why the candidates for the goal of a key aren't listed so: one of the places has no step, or its step's goal may not be asked; or that
-- goal itself may not, or a region that is an error stands in it.
pub data AreNotListed (ts : List Tree) (ss : List DerivationStep) (places : List ℕ) (k : GoalKey) : Type 0 where
  no_step : (n : ℕ) → Contains places n → slice_get ss n ≡ None → AreNotListed ts ss places k
  step_not_asked : (n : ℕ) (s : DerivationStep) → Contains places n → slice_get ss n ≡ Some s → may_be_asked (key_seen ts s.key) ≡ false
      → AreNotListed ts ss places k
  goal_not_asked : may_be_asked (key_seen ts k) ≡ false → AreNotListed ts ss places k
  goal_has_error : has_error ts k ≡ true → AreNotListed ts ss places k

-- The candidates that are found so: they are listed, or there are none. The numbers are of a later context.
pub data AreFoundBy (r n : Evaluator) (ss : List DerivationStep) (places : List ℕ) (k : GoalKey) : List OfNumbers → Type 0 where
  found_listed : {xs : List OfNumbers} → AreListedBy r ss places k (candidates_of n.context.trees xs) → AreFoundBy r n ss places k xs
  found_none : AreNotListed r.context.trees ss places k → AreFoundBy r n ss places k []

-- Why a step isn't by its source, over those before it: the candidates for its goal aren't listed so; or they are, and it isn't sure or none
-- of them is what it says.
pub data IsNotBySource (r : Evaluator) (before : List DerivationStep) (s : DerivationStep) : Type 0 where
  not_listed : AreNotListed r.context.trees before s.nested.items s.key → IsNotBySource r before s
  not_among : (xs : List Candidate) → AreListedBy r before s.nested.items s.key xs → (s.response.certainty ≡ Yes → Contains xs (candidate_said r.context.trees s) → ⊥)
      → IsNotBySource r before s

-- one of the steps isn't, over those before it
pub record OneIsNotBySource (r : Evaluator) (ss : List DerivationStep) : Type 0 where
  pub place : ℕ
  pub step : DerivationStep
  pub there : slice_get ss place ≡ Some step
  pub refused : IsNotBySource r (take place ss) step

-- Each of the steps is by its source for an evaluator between these two, before and after which all stays but the table.
pub record WereBySource (old new : Evaluator) (ss : List DerivationStep) : Type 0 where
  pub middle : Evaluator
  pub since : StaysBesideTable old middle
  pub until : StaysBesideTable middle new
  pub are : Each (IsStep middle.context.trees) ss
  pub sources : AreBySource middle ss

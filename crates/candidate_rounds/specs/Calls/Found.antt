-- What the table says of a key, as it is found by numbers.
use Rattle.std.specs.Prelude.{◌≡◌, ℕ, true, false, Option, Some, List, slice_get}
use Rattle.ir_trees.specs.Syntax.Trees.{Tree}
use Rattle.candidate_eval.specs.Outcomes.ResponseTrees.{response_of}
use Rattle.candidate_eval.specs.declared.eval.response.CanonicalResponse.{CanonicalResponse}
use Rattle.candidate_eval.specs.Outcomes.Responses.{Response}
use Rattle.candidate_rounds.specs.declared.rounds.goals.Verdict.{Verdict as Numbers}
use Rattle.candidate_rounds.specs.declared.rounds.goals.Verdict.TheVariants as V
use Rattle.candidate_rounds.specs.declared.rounds.table.Found.{Found}
use Rattle.candidate_rounds.specs.declared.rounds.table.Found.TheVariants as F
use Rattle.candidate_rounds.specs.Table.Entries.{GoalEntry}
use Rattle.candidate_rounds.specs.Table.Goals.{Via, table_seen}
use Rattle.rounds_judge.specs.Table.GoalTable.{GoalTable, is_entered, verdict_in, well_entered}
use Rattle.rounds_judge.specs.Table.Keys.{Key}
use Rattle.rounds_judge.specs.Table.Verdicts.{Verdict, Yes, Refused}

-- Nothing is known for sure.
abbrev pub IsOpen : Option (Verdict Via) → Type 0
IsOpen (Some (Yes r w)) = ⊥
IsOpen (Some Refused) = ⊥
IsOpen _ = Unit {0}

-- The entry of that place has a Yes, which is what may be read of the key.
pub record IsYesAt (ts : List Tree) (es : List GoalEntry) (k : Key) (n : ℕ) : Type 0 where
  pub entry : GoalEntry
  pub there : slice_get es n ≡ Some entry
  pub response : CanonicalResponse
  pub way : Option Via
  pub says : entry.1.verdict ≡ Some (V.Yes response way)
  pub read : verdict_in (well_entered (table_seen ts es)) k ≡ Some (Yes (response_of ts response) way)

abbrev pub IsFound : List Tree → List GoalEntry → Key → Found → Type 0
IsFound ts es k F.Missing = is_entered (table_seen ts es) k ≡ false
IsFound ts es k F.Open = (is_entered (table_seen ts es) k ≡ true) × IsOpen (verdict_in (well_entered (table_seen ts es)) k)
IsFound ts es k (F.Yes n) = IsYesAt ts es k n
IsFound ts es k F.Refused = verdict_in (well_entered (table_seen ts es)) k ≡ Some Refused

-- A Yes is read of the key, with that response.
pub record IsReadYes (T : GoalTable Via) (k : Key) (r : Response) : Type 0 where
  pub way : Option Via
  pub read : verdict_in T k ≡ Some (Yes r way)

-- what the verdict of the entry of that place says
abbrev pub lookup_of : Option Numbers → ℕ → Found
lookup_of (Some (V.Yes r w)) n = F.Yes n
lookup_of (Some V.Refused) n = F.Refused
lookup_of _ n = F.Open

-- Whether what a round writes changes the table, where equal trees have one number.
use Rattle.std.specs.Prelude.{◌≡◌, ◌++◌, ◌∷◌, List, Option, Some, None, map}
use Rattle.ir_trees.specs.Syntax.Table.{AreDistinct}
use Rattle.ir_trees.specs.Syntax.Trees.{Tree}
use Rattle.candidate_rounds.specs.declared.rounds.goals.GoalKey.{GoalKey}
use Rattle.candidate_rounds.specs.declared.rounds.goals.Verdict.{Verdict}
use Rattle.candidate_rounds.specs.declared.rounds.writing.Written.{Written}
use Rattle.candidate_rounds.specs.Table.Entries.{GoalEntry, all_written_into, new_entry, write_verdict}
use Rattle.candidate_rounds.specs.Table.Goals.{IsVerdict, entry_seen, table_seen, verdict_seen}

-- The two say something else.
abbrev pub SayOther : Verdict → Verdict → Type 0
SayOther a b = (ts : List Tree) → AreDistinct ts → IsVerdict ts (Some a) → IsVerdict ts (Some b) → verdict_seen ts a ≡ verdict_seen ts b → ⊥

-- what a round has for a place is of the trees
abbrev pub IsWritten : List Tree → Option Written → Type 0
IsWritten ts None = Unit {0}
IsWritten ts (Some w) = IsVerdict ts (Some w.verdict)

-- What is written makes another entry.
abbrev pub MakesOther : GoalEntry → Option Written → Type 0
MakesOther e w = (ts : List Tree) → AreDistinct ts → IsVerdict ts e.1.verdict → IsWritten ts w → entry_seen ts (write_verdict e w) ≡ entry_seen ts e → ⊥

-- What the entries say, and what a round has for their places, is of the trees.
abbrev pub AreVerdicts : List Tree → List GoalEntry → List (Option Written) → Type 0
AreVerdicts ts (e ∷ es) (w ∷ ws) = IsVerdict ts e.1.verdict × IsWritten ts w × AreVerdicts ts es ws
AreVerdicts ts _ _ = Unit {0}

-- What is written, and the goals that were asked for after it, make another table; so they do of these trees.

abbrev pub ChangeTableOf : List Tree → List GoalEntry → List GoalKey → List (Option Written) → Type 0
ChangeTableOf ts es ks ws = AreVerdicts ts es ws → table_seen ts (all_written_into es ws ++ map new_entry ks) ≡ table_seen ts es → ⊥

abbrev pub ChangeTable : List GoalEntry → List GoalKey → List (Option Written) → Type 0
ChangeTable es ks ws = (ts : List Tree) → AreDistinct ts → ChangeTableOf ts es ks ws

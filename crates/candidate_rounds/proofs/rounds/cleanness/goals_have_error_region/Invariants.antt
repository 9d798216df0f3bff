use Rattle.std.specs.Prelude.{◌≡◌, false, take}
use Rattle.candidate_rounds.specs.Table.Cleanness.{has_error}
use Rattle.candidate_rounds.specs.Table.Entries.{GoalEntry}
use Rattle.candidate_rounds.specs.Table.Goals.{Each}
use Rattle.candidate_rounds.proofs.rounds.cleanness.goals_have_error_region.Given as goal

abbrev pub invariant-loop-place : goal.invariant-loop-place
invariant-loop-place l = Each (λ (e : GoalEntry). has_error l.fn.cx.trees e.0 ≡ false) (take l.place l.fn.goals.table)

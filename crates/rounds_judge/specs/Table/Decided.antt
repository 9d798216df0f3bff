-- What a final verdict does to the goals that ask.
use Rattle.std.specs.Prelude.{◌≡◌, true, None, Some, []}
use Rattle.candidate_eval.specs.Derivations.ImplRules.{TraitGoal}
use Rattle.candidate_eval.specs.Judges.States.{Pending, State, resolved}
use Rattle.rounds_judge.specs.Aliases.Listed.{Listing}
use Rattle.rounds_judge.specs.Obligations.Settling.{Outcome}
use Rattle.rounds_judge.specs.Table.GoalTable.{GoalTable, verdict_in}
use Rattle.rounds_judge.specs.Table.Keys.{goal_trees, key_at}
use Rattle.rounds_judge.specs.Table.TableSettling.{are_bare, tried_trait}
use Rattle.rounds_judge.specs.Table.Verdicts.{is_final}

-- A goal that is tried is refused, or done: nothing stays of it.
abbrev pub IsDecided : Outcome → Type 0
IsDecided None = Unit {0}
IsDecided (Some q) = q.0 ≡ []

-- So is each goal of a trait of which the table has a final verdict, wherever it asks.
abbrev pub FinalDecides : {W : Type 0} → GoalTable W → Type 0
FinalDecides T = (l : Listing) (S : State) (p : Pending) (g : TraitGoal) → are_bare (resolved S (goal_trees g)) ≡ true → is_final (verdict_in T (key_at S g)) ≡ true
    → IsDecided (tried_trait T l S p g)

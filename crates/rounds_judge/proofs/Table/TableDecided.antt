-- What is final in a table decides the goals that ask.
use Rattle.std.proofs.Common.{◌≡◌, ℕ, Bool, true, false, Option, Some, None, List, refl, sym, subst, if◌then◌else◌}
use Rattle.candidate_eval.specs.Derivations.ImplRules.{TraitGoal}
use Rattle.candidate_eval.specs.Judges.States.{Pending, State, resolved}
use Rattle.rounds_judge.specs.Aliases.Listed.{Listing}
use Rattle.rounds_judge.specs.Equations.Equating.{without_goals}
use Rattle.rounds_judge.specs.Obligations.Settling.{stays}
use Rattle.rounds_judge.specs.Table.GoalTable.{GoalTable, verdict_in}
use Rattle.rounds_judge.specs.Table.Keys.{Key, goal_trees, key_at, numbers_at}
use Rattle.rounds_judge.specs.Table.Decided.{IsDecided}
use Rattle.rounds_judge.specs.Table.TableSettling.{are_bare, given, tried_by, tried_trait}
use Rattle.rounds_judge.specs.Table.Verdicts.{Verdict, Yes, Maybe, Refused, is_final}

module _ {W : Type 0} (l : Listing) (S : State) (p : Pending) where
  verdict_decides : (k : Key) (ns : List ℕ) (v : Option (Verdict W)) → is_final v ≡ true → IsDecided (tried_by l S p k ns v)
  verdict_decides k ns (Some Refused) e = tt
  verdict_decides k ns (Some (Yes r w)) e = at (given l S k ns r)
    where
      at : (o : Option State) → IsDecided (without_goals o)
      at None = tt
      at (Some T) = refl
  verdict_decides k ns (Some (Maybe r w)) e = absurd (clash e)
    where
      clash : false ≡ true → ⊥
      clash e = cc
  verdict_decides k ns None e = absurd (clash e)
    where
      clash : false ≡ true → ⊥
      clash e = cc

  pub final_decides : (T : GoalTable W) (g : TraitGoal) → are_bare (resolved S (goal_trees g)) ≡ true → is_final (verdict_in T (key_at S g)) ≡ true → IsDecided (tried_trait T l S p g)
  final_decides T g bare e =
      subst (λ (b : Bool). IsDecided (if b then tried_by l S p (key_at S g) (numbers_at S g) (verdict_in T (key_at S g)) else stays S p)) (sym bare)
      (verdict_decides (key_at S g) (numbers_at S g) (verdict_in T (key_at S g)) e)

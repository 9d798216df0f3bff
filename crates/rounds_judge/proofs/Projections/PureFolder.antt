-- The passes that settling does, and the state that a response is of.
use Rattle.std.proofs.Common.{◌≡◌, Option, Some, None, refl, ap}
use Rattle.candidate_eval.specs.declared.eval.certainty.Certainty.{Certainty}
use Rattle.candidate_eval.specs.Judges.States.{State, next}
use Rattle.candidate_eval.specs.Outcomes.Certainties.{certainty_and}
use Rattle.candidate_eval.specs.Outcomes.Responses.{Response}
use Rattle.rounds_judge.specs.Aliases.Listed.{Listing}
use Rattle.rounds_judge.specs.Obligations.Responding.{response}
use Rattle.rounds_judge.specs.Obligations.Settling.{certainty_of, with_certainty}
use Rattle.rounds_judge.specs.Projections.ProjectionGoals.{ProjectionTables}
use Rattle.rounds_judge.specs.Projections.ProjectionSettling.{responded_by_tables, settled_by_tables, tried_by_tables}
use Rattle.rounds_judge.specs.Table.GoalTable.{GoalTable}
use Rattle.rounds_judge.specs.Table.TableSettling.{passes_by}

module _ {W : Type 0} (Q : ProjectionTables W) (K : GoalTable W) (l : Listing) where
  pub passed_by : (S T : State) (c : Certainty) → settled_by_tables Q K l S ≡ Some (c, T) → passes_by (tried_by_tables Q K l) 8 S ≡ Some T
  passed_by S T c e = at (passes_by (tried_by_tables Q K l) 8 S) e
    where
      at : (o : Option State) → next o (λ U. Some (with_certainty U)) ≡ Some (c, T) → o ≡ Some T
      at None e = cc
      at (Some R) e = ap (λ (q : Certainty × State). Some q.1) (let is : with_certainty R ≡ (c, T) = cc in is)

  -- The state that a response is of.
  pub record Answered (S : State) (c : Certainty) (r : Response) : Type 0 where
    pub last : State
    pub passed : passes_by (tried_by_tables Q K l) 8 S ≡ Some last
    pub is : response last (certainty_and c (certainty_of last.pending)) ≡ r

  pub answered_by : (S : State) (c : Certainty) (r : Response) → responded_by_tables Q K l S c ≡ Some r → Answered S c r
  answered_by S c r e = at (passes_by (tried_by_tables Q K l) 8 S) refl e
    where
      at : (o : Option State) → passes_by (tried_by_tables Q K l) 8 S ≡ o → next (next o (λ T. Some (with_certainty T))) (λ q. Some (response q.1 (certainty_and c q.0))) ≡ Some r → Answered S c r
      at None p e = cc
      at (Some T) p e = record { last = T; passed = p; is = let is : response T (certainty_and c (certainty_of T.pending)) ≡ r = cc in is }

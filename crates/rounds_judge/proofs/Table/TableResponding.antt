-- With a table, Yes is answered only where all that was pending is granted.
use Rattle.std.proofs.Common.{◌≡◌, ℕ, List, Option, Some, None, [], refl, sym, ap, subst, ◌∙◌}
use Rattle.std.specs.List.{All}
use Rattle.std.proofs.lemmas.List.Elements.{All-nil}
use Rattle.ir_trees.specs.Syntax.Trees.{Tree}
use Rattle.ir_trees.specs.declared.decl.limits.Limits.{Limits}
use Rattle.ir_trees.specs.Declarations.Worlds.{World}
use Rattle.candidate_eval.specs.declared.eval.certainty.Certainty.{Certainty}
use Rattle.candidate_eval.specs.declared.eval.certainty.Certainty.TheVariants.{Yes}
use Rattle.candidate_eval.specs.Outcomes.Certainties.{certainty_and}
use Rattle.candidate_eval.specs.Judges.Instances.{IsResponseOf}
use Rattle.candidate_eval.specs.Judges.Lawful.{AnswersYes}
use Rattle.candidate_eval.specs.Outcomes.Responses.{Response}
use Rattle.candidate_eval.specs.Judges.Soundness.{Live, Follows, IsSound, ValuesFit, GoalsAreOf}
use Rattle.candidate_eval.specs.Judges.States.{State, Pending, next}
use Rattle.rounds_judge.specs.Table.GoalTable.{GoalTable}
use Rattle.rounds_judge.specs.Aliases.Listed.{Listing}
use Rattle.rounds_judge.specs.Obligations.Responding.{response}
use Rattle.rounds_judge.specs.Obligations.Settling.{certainty_of, with_certainty}
use Rattle.rounds_judge.specs.Equations.Standing.{IsListing}
use Rattle.rounds_judge.specs.Table.TableGranted.{IsGrantedWith}
use Rattle.rounds_judge.specs.Table.TableJudge.{table_judge}
use Rattle.rounds_judge.specs.Table.TableSettling.{tried_with, passes_by, settled_with, responded_with}
use Rattle.rounds_judge.proofs.Lawfulness.JudgeLaws.{follows_itself, yes_both}
use Rattle.rounds_judge.proofs.Obligations.Responding.{none_pending, response_is}
use Rattle.rounds_judge.proofs.Table.TableDropped.{passes_dropped}
use Rattle.rounds_judge.proofs.Table.TableSettled.{ReadsWell, settled_follows}

-- The state that a response is of.
pub record Answered {W : Type 0} (K : GoalTable W) (l : Listing) (S : State) (c : Certainty) (r : Response) : Type 0 where
  pub last : State
  pub passed : passes_by (tried_with K l) 8 S ≡ Some last
  pub is : response last (certainty_and c (certainty_of last.pending)) ≡ r

pub answered : {W : Type 0} (K : GoalTable W) (l : Listing) (S : State) (c : Certainty) (r : Response) → responded_with K l S c ≡ Some r → Answered K l S c r
answered K l S c r e = at (passes_by (tried_with K l) 8 S) refl e
  where
    at : (o : Option State) → passes_by (tried_with K l) 8 S ≡ o → next (next o (λ T. Some (with_certainty T))) (λ q. Some (response q.1 (certainty_and c q.0))) ≡ Some r → Answered K l S c r
    at None p e = cc
    at (Some T) p e = record { last = T; passed = p; is = let is : response T (certainty_and c (certainty_of T.pending)) ≡ r = cc in is }

pub yes_is_granted : {W : Type 0} (K : GoalTable W) → ReadsWell K → (w : World) (local : ℕ) (limits : Limits) (l : Listing) (os : List Tree) → IsListing l → (S : State) (L : Live) (c : Certainty) (r : Response) → IsSound S L → ValuesFit S L → GoalsAreOf S L S.pending
    → responded_with K l S c ≡ Some r → r.certainty ≡ Yes → AnswersYes (table_judge w local limits l os K) S L r
yes_is_granted K reads w local limits l os listing S L c r sound fits of e y =
    let a = answered K l S c r e in
    let T : State = a.last in
    let empty : T.pending ≡ [] = none_pending T.pending (yes_both c (certainty_of T.pending) (ap (λ (r : Response). r.certainty) a.is ∙ y)).1 in
    let settled : settled_with K l S ≡ Some (with_certainty T) = ap (λ o. next o (λ U. Some (with_certainty U))) a.passed in
    let f : Follows S T L = (settled_follows K reads l listing S T L (certainty_of T.pending) sound fits of settled).follows in
    record {
      last = T;
      follows = f;
      granted = passes_dropped K reads l listing S T T L sound fits of a.passed f (follows_itself T f.live f.sound f.fits) (subst (All (λ (p : Pending). IsGrantedWith K l T p.goal)) (sym empty) (All-nil (λ (p : Pending). IsGrantedWith K l T p.goal)));
      response = subst (IsResponseOf T f.live) a.is (response_is T f.live (certainty_and c (certainty_of T.pending)));
    }

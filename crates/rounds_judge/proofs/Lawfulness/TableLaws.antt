-- Laws of an evaluator that the judge keeps: those on equations, and those on responses that don't speak of what is granted.
use Rattle.std.proofs.Common.{◌≡◌, ℕ, suc, false, List, [], Option, Some, None, refl, sym, subst, ap, ◌∙◌, if◌then◌else◌}
use Rattle.ir_trees.specs.Syntax.Trees.{Tree}
use Rattle.ir_trees.specs.declared.decl.limits.Limits.{Limits}
use Rattle.ir_trees.specs.Declarations.Worlds.{World}
use Rattle.candidate_eval.specs.declared.eval.certainty.Certainty.{Certainty}
use Rattle.candidate_eval.specs.declared.eval.certainty.Certainty.TheVariants.{Yes}
use Rattle.candidate_eval.specs.Outcomes.Certainties.{certainty_and}
use Rattle.candidate_eval.specs.Judges.Instances.{IsResponseOf}
use Rattle.candidate_eval.specs.Judges.Lawful.{EquationLaws, IsAnswered}
use Rattle.candidate_eval.specs.Outcomes.Responses.{Response}
use Rattle.candidate_eval.specs.Judges.Soundness.{Live}
use Rattle.candidate_eval.specs.Judges.States.{State, Judge, with_pending, next}
use Rattle.rounds_judge.specs.Table.GoalTable.{GoalTable}
use Rattle.rounds_judge.specs.Aliases.Listed.{Listing}
use Rattle.rounds_judge.specs.Obligations.Responding.{response}
use Rattle.rounds_judge.specs.Obligations.Settling.{certainty_of, gave_a_value, with_certainty, with_staying}
use Rattle.rounds_judge.specs.Equations.Standing.{IsListing}
use Rattle.rounds_judge.specs.Equations.WithErrors.{EquatesErrors}
use Rattle.rounds_judge.specs.Table.TableJudge.{table_judge}
use Rattle.rounds_judge.specs.Table.TableSettling.{Try, all_by, passes_by, tried_with, responded_with}
use Rattle.rounds_judge.proofs.Lawfulness.OpenEquations.{equates_errors, open_equation_laws}
use Rattle.rounds_judge.proofs.Lawfulness.JudgeLaws.{and_yes, gives_nothing, yes_both}
use Rattle.rounds_judge.proofs.Obligations.Responding.{response_is}

-- With nothing pending one pass is made, whatever the way to try goals, and it changes nothing.
pub nothing_by : (try : Try) (l : Listing) (n : ℕ) (S : State) → S.pending ≡ [] → passes_by try (suc n) S ≡ Some S
nothing_by try l n S e =
    ap (λ ps. next (next (all_by try S ps) (λ q. Some (with_staying q))) (λ T. if gave_a_value S.variables T.variables then passes_by try n T else Some T)) e
    ∙ go_on (with_pending S []) (ap (with_pending S) e)
  where
    go_on : (T : State) → S ≡ T → (if gave_a_value S.variables T.variables then passes_by try n T else Some T) ≡ Some S
    go_on T e =
        let none : gave_a_value S.variables T.variables ≡ false = subst (λ (R : State). gave_a_value S.variables R.variables ≡ false) e (gives_nothing S.variables) in
        ap (λ b. if b then passes_by try n T else Some T) none ∙ ap Some (sym e)

module _ {W : Type 0} (w : World) (local : ℕ) (limits : Limits) (l : Listing) (os : List Tree) (K : GoalTable W) where
  abbrev J : Judge
  J = table_judge w local limits l os K

  pub nothing_pending : (S : State) (c : Certainty) → S.pending ≡ [] → responded_with K l S c ≡ Some (response S (certainty_and c (certainty_of S.pending)))
  nothing_pending S c e = ap (λ o. next (next o (λ T. Some (with_certainty T))) (λ q. Some (response q.1 (certainty_and c q.0)))) (nothing_by (tried_with K l) l 7 S e)

  pub empty_is_answered_with : (S : State) (c : Certainty) → S.pending ≡ [] → IsAnswered J S c
  empty_is_answered_with S c e = record {
    response = response S (certainty_and c (certainty_of S.pending));
    is = nothing_pending S c e;
    as_asked = ap (λ ps. certainty_and c (certainty_of ps)) e ∙ and_yes c;
  }

  pub empty_is_of_state_with : (S : State) (L : Live) (c : Certainty) (r : Response) → S.pending ≡ [] → responded_with K l S c ≡ Some r → IsResponseOf S L r
  empty_is_of_state_with S L c r p e =
      let is : response S (certainty_and c (certainty_of S.pending)) ≡ r = let same = sym (nothing_pending S c p) ∙ e in cc in
      subst (IsResponseOf S L) is (response_is S L (certainty_and c (certainty_of S.pending)))

  pub yes_was_asked_with : (S : State) (c : Certainty) (r : Response) → responded_with K l S c ≡ Some r → r.certainty ≡ Yes → c ≡ Yes
  yes_was_asked_with S c r e y = at (passes_by (tried_with K l) 8 S) e
    where
      at : (o : Option State) → next (next o (λ T. Some (with_certainty T))) (λ q. Some (response q.1 (certainty_and c q.0))) ≡ Some r → c ≡ Yes
      at None e = cc
      at (Some T) e = (yes_both c (certainty_of T.pending) (ap (λ (r : Response). r.certainty) (let is : response T (certainty_and c (certainty_of T.pending)) ≡ r = cc in is) ∙ y)).0

  pub equations_with : IsListing l → EquationLaws J
  equations_with listing = open_equation_laws l listing J (λ S e a b. refl)

  pub errors_with : IsListing l → EquatesErrors J
  errors_with listing = equates_errors l listing J (λ S e a b. refl)

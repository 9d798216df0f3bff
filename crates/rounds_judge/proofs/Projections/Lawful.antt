-- The judge by tables of goals of traits and of projections keeps all laws of an evaluator.
use Rattle.std.proofs.Common.{◌≡◌, ℕ, List, [], Some, refl, sym, subst, ap, ◌∙◌}
use Rattle.std.specs.List.{All}
use Rattle.std.proofs.lemmas.List.Elements.{All-nil}
use Rattle.ir_trees.specs.declared.decl.limits.Limits.{Limits}
use Rattle.ir_trees.specs.declared.ir.kinds.AssocId.{AssocId}
use Rattle.ir_trees.specs.Declarations.Worlds.{World}
use Rattle.ir_trees.specs.Syntax.Trees.{Tree}
use Rattle.candidate_eval.specs.declared.eval.certainty.Certainty.{Certainty}
use Rattle.candidate_eval.specs.declared.eval.certainty.Certainty.TheVariants.{Yes}
use Rattle.candidate_eval.specs.Derivations.Judging.{comes_to, is_at, normal_at, run}
use Rattle.candidate_eval.specs.Judges.Alike.{BothNormal, JudgesAlike}
use Rattle.candidate_eval.specs.Judges.Instances.{IsResponseOf}
use Rattle.candidate_eval.specs.Judges.Lawful.{AnswersYes, GrantedLaws, IsAnswered, Lawful, ResponseLaws}
use Rattle.candidate_eval.specs.Judges.Soundness.{Follows, GoalIsOf, GoalsAreOf, IsSound, Live, ValuesFit}
use Rattle.candidate_eval.specs.Judges.States.{Judge, Pending, State, next, with_pending}
use Rattle.candidate_eval.specs.Outcomes.Certainties.{certainty_and}
use Rattle.candidate_eval.specs.Outcomes.Responses.{Response}
use Rattle.rounds_judge.specs.Aliases.Listed.{Listing}
use Rattle.rounds_judge.specs.Aliases.WellListed.{well_listed}
use Rattle.rounds_judge.specs.Equations.Standing.{IsListing}
use Rattle.rounds_judge.specs.Equations.WithErrors.{EquatesErrors}
use Rattle.rounds_judge.specs.Obligations.Responding.{response}
use Rattle.rounds_judge.specs.Obligations.Settling.{certainty_of, with_certainty}
use Rattle.rounds_judge.specs.Projections.ProjectionGoals.{ProjectionTables}
use Rattle.rounds_judge.specs.Projections.ProjectionGranted.{IsGrantedBy}
use Rattle.rounds_judge.specs.Projections.ProjectionJudge.{projection_judge}
use Rattle.rounds_judge.specs.Projections.ProjectionSettling.{responded_by_tables, settled_by_tables, tried_by_tables}
use Rattle.rounds_judge.specs.Table.GoalTable.{GoalTable, well_entered}
use Rattle.rounds_judge.proofs.Aliases.WellListed.{well-listed}
use Rattle.rounds_judge.proofs.Lawfulness.JudgeLaws.{and_yes, follows_itself, looks_alike, same_normal, same_place, yes_both}
use Rattle.rounds_judge.proofs.Lawfulness.OpenEquations.{equates_errors, open_equation_laws}
use Rattle.rounds_judge.proofs.Lawfulness.TableLaws.{nothing_by}
use Rattle.rounds_judge.proofs.Obligations.Responding.{none_pending, response_is}
use Rattle.rounds_judge.proofs.Projections.PureFolder.{answered_by, passed_by}
use Rattle.rounds_judge.proofs.Projections.Bringing.{responding_brings_none_by, settling_follows_by}
use Rattle.rounds_judge.proofs.Projections.Counting.{settling_keeps_variables_by}
use Rattle.rounds_judge.proofs.Projections.Dropping.{passes_dropped_by}
use Rattle.rounds_judge.proofs.Projections.Normalizing.{normal_form_laws_by}
use Rattle.rounds_judge.proofs.Projections.Staying.{granted_stays_by}
use Rattle.rounds_judge.proofs.Table.TableSettled.{ReadsWell, well_read}

module _ {W : Type 0} (w : World) (local : ℕ) (limits : Limits) (l : Listing) (os : List Tree) (listing : IsListing l) (Q : ProjectionTables W) (reads_terms : (i : AssocId) → ReadsWell (Q i)) (K : GoalTable W) (reads : ReadsWell K) where
  abbrev J : Judge
  J = projection_judge w local limits l os Q K

  alike_judged_alike : JudgesAlike J
  alike_judged_alike = record {
    alike_same = λ S. refl;
    alike_along = λ S T U p q. q ∙ p;
    alike_aside = λ S T e. ap (λ R. with_pending R []) e;
    alike_looks = λ S T e. subst (Rattle.candidate_eval.specs.Judges.Alike.LooksAlike S) (sym e) (looks_alike S);
    alike_places = λ S T ls e b. (e, refl);
    same_answers = λ n p q e steps end s a b c. ap (λ x. comes_to J e x steps end) (same_place p q s);
    same_refusals = λ n p q e steps s a b. ap (λ x. is_at (run J e x steps)) (same_place p q s);
    same_normal_forms = λ n p q e t s a b.
        subst (λ x. BothNormal (λ p q. (q.state ≡ p.state) × (q.locals ≡ p.locals)) (normal_at J e p t) (normal_at J e x t)) (sym (same_place p q s)) (same_normal (normal_at J e p t));
  }

  -- With nothing pending the response is the state's.
  nothing_pending : (S : State) (c : Certainty) → S.pending ≡ [] → responded_by_tables Q K l S c ≡ Some (response S (certainty_and c (certainty_of S.pending)))
  nothing_pending S c e = ap (λ o. next (next o (λ T. Some (with_certainty T))) (λ q. Some (response q.1 (certainty_and c q.0)))) (nothing_by (tried_by_tables Q K l) l 7 S e)

  empty_answered : (S : State) (c : Certainty) → S.pending ≡ [] → IsAnswered J S c
  empty_answered S c e = record {
    response = response S (certainty_and c (certainty_of S.pending));
    is = nothing_pending S c e;
    as_asked = ap (λ ps. certainty_and c (certainty_of ps)) e ∙ and_yes c;
  }

  empty_of_state : (S : State) (L : Live) (c : Certainty) (r : Response) → S.pending ≡ [] → responded_by_tables Q K l S c ≡ Some r → IsResponseOf S L r
  empty_of_state S L c r p e =
      let is : response S (certainty_and c (certainty_of S.pending)) ≡ r = let same = sym (nothing_pending S c p) ∙ e in cc in
      subst (IsResponseOf S L) is (response_is S L (certainty_and c (certainty_of S.pending)))

  yes_asked : (S : State) (c : Certainty) (r : Response) → responded_by_tables Q K l S c ≡ Some r → r.certainty ≡ Yes → c ≡ Yes
  yes_asked S c r e y =
      let a = answered_by Q K l S c r e in
      (yes_both c (certainty_of a.last.pending) (ap (λ (r : Response). r.certainty) a.is ∙ y)).0

  yes_granted : (S : State) (L : Live) (c : Certainty) (r : Response) → IsSound S L → ValuesFit S L → GoalsAreOf S L S.pending → responded_by_tables Q K l S c ≡ Some r → r.certainty ≡ Yes → AnswersYes J S L r
  yes_granted S L c r sound fits of e y =
      let a = answered_by Q K l S c r e in
      let T : State = a.last in
      let empty : T.pending ≡ [] = none_pending T.pending (yes_both c (certainty_of T.pending) (ap (λ (r : Response). r.certainty) a.is ∙ y)).1 in
      let settled : settled_by_tables Q K l S ≡ Some (with_certainty T) = ap (λ o. next o (λ U. Some (with_certainty U))) a.passed in
      let f : Follows S T L = (settling_follows_by Q reads_terms K reads l listing S T L (certainty_of T.pending) sound fits of settled).follows in
      record {
        last = T;
        follows = f;
        granted = passes_dropped_by Q reads_terms K reads l listing S T T L sound fits of a.passed f (subst (GoalsAreOf T f.live) (sym empty) (All-nil (λ (p : Pending). GoalIsOf T f.live p.goal))) (follows_itself T f.live f.sound f.fits)
            (subst (All (λ (p : Pending). IsGrantedBy Q K l T p.goal)) (sym empty) (All-nil (λ (p : Pending). IsGrantedBy Q K l T p.goal)));
        response = subst (IsResponseOf T f.live) a.is (response_is T f.live (certainty_and c (certainty_of T.pending)));
      }

  pub response_laws : ResponseLaws J
  response_laws = record {
    empty_is_answered = λ S c e. empty_answered S c e;
    empty_is_of_state = λ S L c r p e. empty_of_state S L c r p e;
    yes_was_asked = λ S c r e y. yes_asked S c r e y;
    yes_is_granted = λ S L c r sound fits of e y. yes_granted S L c r sound fits of e y;
  }

  pub granted_laws : GrantedLaws J
  granted_laws = record {
    settling_keeps_variables = λ S T c e. settling_keeps_variables_by Q K l listing S T c e;
    settling_follows = λ S T L c sound fits of e. settling_follows_by Q reads_terms K reads l listing S T L c sound fits of e;
    settling_drops_granted = λ S T U L c sound fits of e f goals g granted. passes_dropped_by Q reads_terms K reads l listing S T U L sound fits of (passed_by Q K l S T c e) f goals g granted;
    responding_brings_none = λ S L c r sound fits of roots free goals e. responding_brings_none_by Q reads_terms K reads l listing S L c r sound fits of roots free goals e;
    granted_stays = λ S T L g sound fits of f a. granted_stays_by Q K l listing S T L g sound fits of f a;
  }

  pub projections_lawful : Lawful J
  projections_lawful = record {
    normal_forms = normal_form_laws_by w local limits l os Q reads_terms K listing;
    equations = open_equation_laws l listing J (λ S e a b. refl);
    responses = response_laws;
    granted = granted_laws;
    alike_judged_alike = alike_judged_alike;
  }

  pub projections_equate_errors : EquatesErrors J
  projections_equate_errors = equates_errors l listing J (λ S e a b. refl)

-- Of what may be listed and what may be read no premise is left.
pub projections_keep_the_laws : {W : Type 0} (w : World) (local : ℕ) (limits : Limits) (pairs : Listing) (opaques : List Tree) (Q : ProjectionTables W) (K : GoalTable W)
    → Lawful (projection_judge w local limits (well_listed pairs) opaques (λ i. well_entered (Q i)) (well_entered K))
projections_keep_the_laws w local limits pairs opaques Q K =
    projections_lawful w local limits (well_listed pairs) opaques (well-listed pairs) (λ i. well_entered (Q i)) (λ i. well_read (Q i)) (well_entered K) (well_read K)

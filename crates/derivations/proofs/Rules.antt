-- A rule of a goal that stands, whose trees are of the state: where its candidate is sure, the goal is derived under the values that are there then.
use Rattle.std.proofs.Common.{◌≡◌, Bool, true, false, List, refl, sym, ap, subst, ◌∙◌}
use Rattle.std.specs.Prelude.{if◌then◌else◌}
use Rattle.std.specs.List.{All}
use Rattle.std.proofs.Math.Nat.{le_trans}
use Rattle.ir_trees.specs.declared.ir.heads.Head.{Head}
use Rattle.ir_trees.specs.Declarations.Context.{Context, Grows}
use Rattle.ir_trees.specs.Syntax.Trees.{Forest, Tree, holds, is_param, join, none}
use Rattle.candidate_eval.specs.declared.eval.certainty.Certainty.TheVariants.{Yes}
use Rattle.candidate_eval.specs.Derivations.ImplRules.{TraitGoal}
use Rattle.candidate_eval.specs.Judges.Instances.{IsResponseOf, instance}
use Rattle.candidate_eval.specs.Derivations.Judging.{Gives, Refused, Reached, Place, concluded, continued, run, start}
use Rattle.candidate_eval.specs.Judges.Lawful.{AreGranted, Lawful}
use Rattle.candidate_eval.specs.Dynamic.ObjectRequirements.{first_tree}
use Rattle.candidate_eval.specs.Knowability.Orphan.{is_general}
use Rattle.candidate_eval.specs.Outcomes.Responses.{Candidate, Response}
use Rattle.candidate_eval.specs.Derivations.Rules.{Ending, Rule, ask, characterise}
use Rattle.candidate_eval.specs.Judges.Soundness.{AreTreesOf, Follows, GoalsAreOf, IsSound, Live, ValuesFit, Within, is_strange, universes}
use Rattle.candidate_eval.specs.Judges.States.{Env, Judge, State, valued}
use Rattle.candidate_assembly.specs.Answers.SureAnswers.{AnswersGranted, RuleGrants}
use Rattle.candidate_assembly.specs.Goals.TraitRules.{trait_bounds, trait_rules}
use Rattle.candidate_assembly.proofs.Sense.Sense.{MakesSense, trees-join, trees-stay}
use Rattle.candidate_assembly.proofs.Sense.SenseLater.{later-along, later-itself}
use Rattle.candidate_assembly.specs.Goals.Standing.{StandsWithPending}
use Rattle.candidate_assembly.proofs.Sense.SenseRules.{AskedThere, RuleIsOf, concluded-there, ending-stays}
use Rattle.candidate_assembly.proofs.Answers.SureAnswers.{ask-sure}
use Rattle.projection_goals.specs.Normalizing.{NormalizesGoal, normalizes_bounds, normalizes_rules}
use Rattle.rounds_judge.specs.Aliases.Congruence.{same}
use Rattle.rounds_judge.specs.Aliases.Listed.{Listing}
use Rattle.rounds_judge.proofs.Aliases.Congruent.{terms_of}
use Rattle.rounds_judge.proofs.States.Later.{known_later}
use Rattle.derivations.specs.Clean.{IsClean}
use Rattle.derivations.specs.Derivations.{CanBeSure, DerivationModulo, IsReadAs, IsRuleUnder, Pairs, PremisesModulo, by_projection_rule, by_rule, projection_trees, said_by, said_of}
use Rattle.derivations.proofs.Backing.{Backs}
use Rattle.derivations.proofs.Putting.{terms_suit}
use Rattle.derivations.proofs.Steps.{Backed, Ran, Serves, Told, ran, reading_at, run_ran}

-- The steps of a rule have their premises at a state that follows, of which the response is.
pub record HasPremises (d : Context) (l : Listing) (E : Pairs) (S : State) (L : Live) (e : Env) (ts : Forest) (r : Rule) (x : Response) : Type 0 where
  pub last : State
  pub follows : Follows S last L
  pub response : IsResponseOf last follows.live x
  pub locals : Forest
  pub premises : PremisesModulo d l E (universes last) (reading_at e ts last) none r.steps locals
  pub can_be_sure : CanBeSure r.ending

-- The goal is derived under the values of a state that follows, of which the response is.
pub record IsAnsweredBy (d : Context) (l : Listing) (E : Pairs) (S : State) (L : Live) (e : Env) (h : Head) (ts : Forest) (r : Response) : Type 0 where
  pub last : State
  pub follows : Follows S last L
  pub response : IsResponseOf last follows.live r
  pub derivation : DerivationModulo d l E (universes last) (valued (instance (terms_of last)) e) h (valued (instance (terms_of last)) ts)

abbrev pub IsAnswered : Context → Listing → Pairs → State → Live → TraitGoal → Response → Type 0
IsAnswered d l E S L g = IsAnsweredBy d l E S L g.env (said_by g) g.reference.arguments

abbrev pub along_follows : (S : State) (L : Live) (T : State) (M : Live) → IsSound S L → Within S L M → Rattle.candidate_eval.specs.Judges.Soundness.IsLater S T L → (U : State) → Follows T U M → Follows S U L
along_follows S L T M sound within later U f = record {
  live = f.live;
  within = λ n k c. f.within n (le_trans k later.longer) (within n k c);
  sound = f.sound;
  fits = f.fits;
  later = later-along S T U L M sound within later f.later;
}

-- What an environment and trees are at a state, beside what is pending there.
pub record StandThere (S : State) (L : Live) (e : Env) (ts : Forest) : Type 0 where
  pub sound : IsSound S L
  pub fits : ValuesFit S L
  pub goals : GoalsAreOf S L S.pending
  pub env : AreTreesOf S L e
  pub trees : AreTreesOf S L ts

pub goal_stands_there : (S : State) (L : Live) (g : TraitGoal) → StandsWithPending S L g → StandThere S L g.env g.reference.arguments
goal_stands_there S L g s = record { sound = s.sound; fits = s.fits; goals = s.goals; env = s.env; trees = s.arguments }

-- The rules of what has this environment and these trees may be read: no parameter stands there, and no error of regions in the trees, and the self
-- type is no general variable.
pub record AreReadable (e : Env) (ts : Forest) : Type 0 where
  pub no_parameter : holds is_param (join e ts) ≡ false
  pub clean : IsClean ts
  pub is_known : is_general (first_tree ts).head ≡ false

abbrev pub IsReadable : TraitGoal → Type 0
IsReadable g = AreReadable g.env g.reference.arguments

module _ (J : Judge) (law : Lawful J) (l : Listing) (d : Context) (E : Pairs) (backs : Backs J d l E) where
  module _ (S : State) (L : Live) (e : Env) (ts : Forest) (s : StandThere S L e ts) where
    abbrev begins : MakesSense S L (start S)
    begins = record {
      live = L;
      sound = s.sound;
      fits = s.fits;
      goals = s.goals;
      locals = record { known = refl; is_closed = refl };
      stays = λ h x. x;
      first = s.sound;
      within = λ n l c. c;
      later = later-itself S L s.sound;
    }

    all_known : holds (is_strange S L) (join e ts) ≡ false
    all_known = (trees-join S L e ts s.env s.trees).known

    -- under the values of a state that follows
    pub read_there : AreReadable e ts → (U : State) (f : Follows S U L)
        → IsReadAs l (E (universes U) (valued (instance (terms_of U)) e)) e ts (terms_of U) (valued (instance (terms_of U)) e) (valued (instance (terms_of U)) ts)
    read_there readable U f = record {
      no_parameter = readable.no_parameter;
      clean = readable.clean;
      is_known = readable.is_known;
      suits = terms_suit U f.live f.fits (join e ts) (known_later S U L f.live f.within f.later (join e ts) all_known);
      env = same (valued (instance (terms_of U)) e);
      arguments = same (valued (instance (terms_of U)) ts);
    }

    module _ (r : Rule) (at_env : r.env ≡ e) (of : RuleIsOf S L r) (serve : All Serves r.steps) (x : Candidate) (h : RuleGrants (AnswersGranted J) J S r x) (sure : x.result.certainty ≡ Yes) where
      can : CanBeSure r.ending
      can = at r.ending refl
        where
          at : (end : Ending) → r.ending ≡ end → CanBeSure end
          at (ask t b) e = ask-sure J law S r x t b e h.gives sure
          at (characterise t) e = tt

      ends : concluded J r.env r.ending h.place.state ≡ Gives x
      ends =
          let after = λ (q : Place). concluded J r.env r.ending q.state in
          sym (ap (λ (b : Bool). if b then continued J r.ending (run J r.env (start S) r.steps) after else Refused) h.applies ∙ ap (λ (o : Reached). continued J r.ending o after) h.reached) ∙ h.gives

      answered_there : (n : MakesSense S L h.place) → ((U : State) → Told J U h.place.state n.live → Backed J d l E r.env ts U S L none r.steps h.place.locals)
          → AskedThere J law h.place.state n.live n.sound n.fits n.goals x → HasPremises d l E S L e ts r x.result
      answered_there n so_back (last, kept, leads, answers) =
          let U = answers.last in
          let f : Follows h.place.state U n.live = along_follows h.place.state n.live last leads.live leads.first leads.within leads.later U answers.follows in
          let b = so_back U (record { granted = subst (AreGranted J U) kept answers.granted; follows = f }) in
          record {
            last = U;
            follows = along_follows S L h.place.state n.live n.first n.within n.later U f;
            response = answers.response;
            locals = h.place.locals;
            premises = subst (λ e. PremisesModulo d l E (universes U) (reading_at e ts U) none r.steps h.place.locals) at_env b.premises;
            can_be_sure = can;
          }

      pub rule_has_premises : HasPremises d l E S L e ts r x.result
      rule_has_premises = from (run_ran J law l d E backs S L r.env of.env ts s.trees r.steps of.steps serve (start S) begins h.place h.reached)
        where
          from : Ran J law l d E backs S L r.env of.env ts s.trees (start S) begins h.place r.steps → HasPremises d l E S L e ts r x.result
          from (ran n stays so_back) =
              answered_there n so_back
              (concluded-there J law h.place.state n.live n.sound n.fits n.goals r.env (trees-stay S L h.place.state n.live n.stays r.env of.env) r.ending
              (ending-stays S L h.place.state (record { live = n.live; sound = n.sound; fits = n.fits; stays = n.stays; first = n.first; within = n.within; later = n.later }) r.ending of.ending) x ends sure)

  -- The rule of a goal of a trait.
  pub rule_answered : (S : State) (L : Live) (g : TraitGoal) (s : StandsWithPending S L g) → IsReadable g → (c : Context) → Grows d c → (r : Rule) → r.env ≡ g.env → RuleIsOf S L r → All Serves r.steps → (x : Candidate)
      → RuleGrants (AnswersGranted J) J S r x → x.result.certainty ≡ Yes
      → ((U : State) → Follows S U L → IsRuleUnder trait_rules trait_bounds c (E (universes U) (valued (instance (terms_of U)) g.env)) (terms_of U) g r) → IsAnswered d l E S L g x.result
  rule_answered S L g s readable c grows r at_env of serve x h sure is =
      let there = goal_stands_there S L g s in
      let a = rule_has_premises S L g.env g.reference.arguments there r at_env of serve x h sure in
      record {
        last = a.last;
        follows = a.follows;
        response = a.response;
        derivation = by_rule c g (terms_of a.last) r a.locals grows (read_there S L g.env g.reference.arguments there readable a.last a.follows) (is a.last a.follows) h.applies a.can_be_sure a.premises;
      }

  -- And the one of a goal that a projection is a type.
  pub projection_answered : (S : State) (L : Live) (g : NormalizesGoal) (s : StandThere S L g.env (projection_trees g)) → AreReadable g.env (projection_trees g) → (c : Context) → Grows d c → (r : Rule) → r.env ≡ g.env → RuleIsOf S L r
      → All Serves r.steps → (x : Candidate) → RuleGrants (AnswersGranted J) J S r x → x.result.certainty ≡ Yes
      → ((U : State) → Follows S U L → IsRuleUnder normalizes_rules normalizes_bounds c (E (universes U) (valued (instance (terms_of U)) g.env)) (terms_of U) g r)
      → IsAnsweredBy d l E S L g.env (said_of g) (projection_trees g) x.result
  projection_answered S L g s readable c grows r at_env of serve x h sure is =
      let a = rule_has_premises S L g.env (projection_trees g) s r at_env of serve x h sure in
      record {
        last = a.last;
        follows = a.follows;
        response = a.response;
        derivation = by_projection_rule c g (terms_of a.last) r a.locals grows (read_there S L g.env (projection_trees g) s readable a.last a.follows) (is a.last a.follows) h.applies a.can_be_sure a.premises;
      }

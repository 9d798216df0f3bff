-- What is asked of an object, as the steps of a rule: their trees are of a state, they mention its variables alone, and they don't end in between.
use Rattle.std.proofs.Common.{◌≡◌, ◌+◌, ℕ, zero, suc, Option, Some, None, List, [], ◌∷◌, ◌++◌, map, length, refl}
use Rattle.std.specs.List.{All, filter}
use Rattle.std.proofs.lemmas.List.Elements.{All-append, All-cons, All-head, All-nil, All-tail}
use Rattle.ir_trees.specs.declared.ir.kinds.GoalSource.TheVariants.{ImplWhereBound}
use Rattle.ir_trees.specs.Hierarchy.Supers.{after_first}
use Rattle.ir_trees.specs.Syntax.Trees.{Tree}
use Rattle.ir_trees.specs.Unification.Substitutions.{alone}
use Rattle.candidate_eval.specs.declared.eval.certainty.Certainty.TheVariants.{Yes}
use Rattle.candidate_eval.specs.declared.eval.source.CandidateSource.{CandidateSource}
use Rattle.candidate_eval.specs.Derivations.Characterization.{bound_kinds}
use Rattle.candidate_eval.specs.Derivations.Judging.{Ambiguous, At, Gives, Judged, Over, Place, Reached, comes_to, concluded, continued, go_on, matched, picked, run, step, taken}
use Rattle.candidate_eval.specs.Derivations.Mentions.{StepsBelow}
use Rattle.candidate_eval.specs.Derivations.Naming.{named, names_from}
use Rattle.candidate_eval.specs.Derivations.Rules.{Match, Require, Step, Upcast, add, ask, enter, equate, fresh, nested, pick, quick, settle, still_general, unknowable}
use Rattle.candidate_eval.specs.Dynamic.ObjectRules.{match_of, matches_of, named_clauses, picks_of}
use Rattle.candidate_eval.specs.Dynamic.Objects.{Projection, is_about}
use Rattle.candidate_eval.specs.Dynamic.Replacing.{Finds, projections}
use Rattle.candidate_eval.specs.Judges.Lawful.{Lawful}
use Rattle.candidate_eval.specs.Judges.Soundness.{Live}
use Rattle.candidate_eval.specs.Judges.States.{Env, Judge, State}
use Rattle.candidate_eval.specs.Outcomes.Certainties.{AMBIGUOUS}
use Rattle.candidate_eval.specs.Outcomes.Responses.{Candidate}
use Rattle.candidate_assembly.specs.Laws.SuperLaws.{Each}
use Rattle.candidate_assembly.proofs.Objects.SuperLaws.{filtered_each}
use Rattle.candidate_assembly.proofs.Answers.SureAnswers.{asked-sure}
use Rattle.candidate_assembly.proofs.Goals.Standing.{known-below}
use Rattle.candidate_assembly.proofs.Sense.Sense.{MatchIsOf, StepIsOf, StepsAreOf}
use Rattle.candidate_assembly.proofs.Sense.SenseClauses.{IsClauseOf}
use Rattle.candidate_assembly.proofs.Sense.SenseNames.{named-from}
use Rattle.candidate_assembly.proofs.Sense.SensePicks.{ArgumentsAreOf, IsTerm, but-last-of, filled-clause-of, last-of}

-- Trees of a state.

module _ (S : State) (L : Live) where
  names_are : (first n : ℕ) → Each (IsTerm S L) (names_from first n)
  names_are first zero = tt
  names_are first (suc n) = (record { known = refl; is_closed = refl }, names_are (suc first) n)

  pub named_clauses_are : (f : Finds) (first : ℕ) (cs : List Tree) → Each (IsTerm S L) cs → Each (IsTerm S L) (named_clauses f first cs)
  named_clauses_are f first [] a = tt
  named_clauses_are f first (c ∷ cs) a =
      let n = length (projections f c.children) in
      (filled-clause-of S L f (names_from first n) c a.0 (names_are first n), named_clauses_are f (first + n) cs a.1)

  match_is : (k : ℕ) (p : Projection) (c : Tree) → ArgumentsAreOf S L p → IsClauseOf S L c → MatchIsOf S L (match_of k p c)
  match_is k p c a b =
      let row = named-from S L k c b.trees in
      record { left = but-last-of S L (named k (bound_kinds c.children) (after_first c.children)) row; right = a; term = last-of S L (named k (bound_kinds c.children) (after_first c.children)) row }

  matches_are : (k : ℕ) (p : Projection) → ArgumentsAreOf S L p → (cs : List Tree) → Each (IsClauseOf S L) cs → All (MatchIsOf S L) (map (match_of k p) cs)
  matches_are k p a [] b = All-nil (MatchIsOf S L)
  matches_are k p a (c ∷ cs) b = All-cons (MatchIsOf S L) (match_of k p c) (map (match_of k p) cs) (match_is k p c a b.0) (matches_are k p a cs b.1)

  picks_are : (k : ℕ) (bs : List Tree) (ps : List Projection) → Each (IsClauseOf S L) bs → All (ArgumentsAreOf S L) ps → StepsAreOf S L (picks_of k bs ps)
  picks_are k bs [] b a = All-nil (StepIsOf S L)
  picks_are k bs (p ∷ ps) b a =
      All-cons (StepIsOf S L) (pick Require (matches_of k bs p)) (picks_of (suc k) bs ps)
      (matches_are k p (All-head (ArgumentsAreOf S L) p ps a) (filter (λ (c : Tree). is_about p.item c.head) bs) (filtered_each (IsClauseOf S L) (λ (c : Tree). is_about p.item c.head) bs b))
      (picks_are (suc k) bs ps b (All-tail (ArgumentsAreOf S L) p ps a))

  nested_are : (cs : List Tree) → Each (IsTerm S L) cs → StepsAreOf S L (nested cs)
  nested_are [] a = All-nil (StepIsOf S L)
  nested_are (c ∷ cs) a = All-cons (StepIsOf S L) (add ImplWhereBound c) (nested cs) a.0 (nested_are cs a.1)

  pub steps_are : (k : ℕ) (bs : List Tree) (ps : List Projection) (cs : List Tree) → Each (IsClauseOf S L) bs → All (ArgumentsAreOf S L) ps → Each (IsTerm S L) cs → StepsAreOf S L (picks_of k bs ps ++ nested cs)
  steps_are k bs ps cs b a c = All-append (StepIsOf S L) (picks_of k bs ps) (nested cs) (picks_are k bs ps b a) (nested_are cs c)

  -- They mention the state's variables alone.
  pub nested_below : (cs : List Tree) → Each (IsTerm S L) cs → StepsBelow (length S.variables) (nested cs)
  nested_below [] a = tt
  nested_below (c ∷ cs) a = (known-below S L (alone c) a.0, nested_below cs a.1)

-- What holds of such steps.
pub steps_have : (P : Step → Type 0) → ((ms : List Match) → P (pick Require ms)) → ((c : Tree) → P (add ImplWhereBound c)) → (k : ℕ) (bs : List Tree) (ps : List Projection) (cs : List Tree) → All P (picks_of k bs ps ++ nested cs)
steps_have P picks adds k bs ps cs = All-append P (picks_of k bs ps) (nested cs) (first k ps) (rest cs)
  where
    first : (k : ℕ) (ps : List Projection) → All P (picks_of k bs ps)
    first k [] = All-nil P
    first k (p ∷ ps) = All-cons P (pick Require (matches_of k bs p)) (picks_of (suc k) bs ps) (picks (matches_of k bs p)) (first (suc k) ps)

    rest : (cs : List Tree) → All P (nested cs)
    rest [] = All-nil P
    rest (c ∷ cs) = All-cons P (add ImplWhereBound c) (nested cs) (adds c) (rest cs)

-- They end at a place or with ambiguity.

abbrev pub IsQuiet : Step → Type 0
IsQuiet (pick Require ms) = Unit {0}
IsQuiet (add s c) = Unit {0}
IsQuiet _ = ⊥

module _ (J : Judge) (e : Env) where
  picked_quiet : (p : Place) (xs : List Match) (j : Judged) → picked J e Require p xs ≡ Over j → ⊥
  picked_quiet p [] j is = absurd cc
  picked_quiet p (x ∷ []) j is = at (matched J e p x) is
    where
      at : (o : Option Place) → taken Require p x.term o ≡ Over j → ⊥
      at None is = absurd cc
      at (Some q) is = absurd cc
  picked_quiet p (x ∷ (y ∷ xs)) j is = absurd cc

  step_quiet : (s : Step) → IsQuiet s → (p : Place) (j : Judged) → step J e p s ≡ Over j → ⊥
  step_quiet (pick Require ms) v p j is = picked_quiet p _ j is
  step_quiet (pick Upcast ms) v p j is = absurd v
  step_quiet (add s c) v p j is = absurd cc
  step_quiet (fresh ks) v p j is = absurd v
  step_quiet (enter ks) v p j is = absurd v
  step_quiet (equate a b) v p j is = absurd v
  step_quiet (quick a b) v p j is = absurd v
  step_quiet settle v p j is = absurd v
  step_quiet (still_general t) v p j is = absurd v
  step_quiet (unknowable r) v p j is = absurd v

  run_quiet : (ss : List Step) → All IsQuiet ss → (p : Place) (j : Judged) → run J e p ss ≡ Over j → ⊥
  run_quiet [] all p j is = absurd cc
  run_quiet (s ∷ ss) all p j is = at (step J e p s) refl (λ q g. run_quiet ss (All-tail IsQuiet s ss all) q j g) is
    where
      at : (r : Reached) → step J e p s ≡ r → ((q : Place) → run J e q ss ≡ Over j → ⊥) → go_on r (λ q. run J e q ss) ≡ Over j → ⊥
      at (At q) was k g = k q g
      at (Ambiguous T) was k g = absurd cc
      at (Over i) was k g = step_quiet s (All-head IsQuiet s ss all) p i was

  -- Where such steps give a sure candidate they come to a place, at which it is answered.
  pub record ComesTo (p : Place) (ss : List Step) (s : CandidateSource) (y : Candidate) : Type 0 where
    pub place : Place
    pub reached : run J e p ss ≡ At place
    pub responded : J.responded place.state Yes ≡ Some y.result

  pub quiet_comes : Lawful J → (p : Place) (ss : List Step) → All IsQuiet ss → (s : CandidateSource) (y : Candidate) → comes_to J e p ss (ask s Yes) ≡ Gives y → y.result.certainty ≡ Yes → ComesTo p ss s y
  quiet_comes law p ss quiet s y gives sure = at (run J e p ss) refl gives
    where
      at : (r : Reached) → run J e p ss ≡ r → continued J (ask s Yes) r (λ q. concluded J e (ask s Yes) q.state) ≡ Gives y → ComesTo p ss s y
      at (At q) was g = record { place = q; reached = was; responded = (asked-sure J law q.state s Yes y g sure).0 }
      at (Ambiguous T) was g = let clash : AMBIGUOUS ≡ Yes = (asked-sure J law T s AMBIGUOUS y g sure).1 in absurd cc
      at (Over j) was g = absurd (run_quiet ss quiet p j was)

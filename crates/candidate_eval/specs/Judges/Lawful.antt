-- The laws of an evaluator. They speak of its judge.
use Rattle.std.specs.Prelude.{◌≡◌, ◌≤◌, ℕ, Bool, true, false, Some, None, List, [], length}
use Rattle.std.specs.List.{All}
use Rattle.ir_trees.specs.Syntax.Trees.{Kind, TypeKind, ConstantKind, Forest, Tree, kind_of, erase, holds, is_alias, is_error, is_param}
use Rattle.ir_trees.specs.Unification.Substitutions.{Substitution, alone, apply}
use Rattle.candidate_eval.specs.Outcomes.Certainties.{Certainty, Yes}
use Rattle.candidate_eval.specs.Outcomes.Responses.{Response}
use Rattle.candidate_eval.specs.Judges.States.{Env, State, Goal, Pending, Judge, VariableInfo, resolved}
use Rattle.candidate_eval.specs.Judges.Alike.{JudgesAlike, info}
use Rattle.candidate_eval.specs.Judges.Soundness.{Live, OfValues, ValuesFit, AreLeaves, AreTreesOf, IsSound, IsResolved, IsSolution, AgreesOn, Within, Follows, GoalIsOf, GoalsAreOf}
use Rattle.candidate_eval.specs.Judges.Instances.{IsResponseOf}

abbrev pub is_type_or_constant : Kind → Bool
is_type_or_constant TypeKind = true
is_type_or_constant ConstantKind = true
is_type_or_constant _ = false

-- The values put in, no alias is left, and no error.
abbrev pub HasNoAlias : State → Forest → Type 0
HasNoAlias S ts = holds is_alias (resolved S ts) ≡ false

abbrev pub HasNoError : State → Forest → Type 0
HasNoError S ts = holds is_error (resolved S ts) ≡ false

-- Of the values of what counts: their variables and regions are leaves; and they hold no parameter.
abbrev pub HasLeafValues : State → Live → Type 0
HasLeafValues S L = OfValues S L (λ n i t. AreLeaves (alone t))

abbrev pub HasNoParameter : State → Live → Type 0
HasNoParameter S L = OfValues S L (λ n i t. holds is_param (alone t) ≡ false)

-- Two sides of which the laws on equations speak.
pub record AreSides (S : State) (L : Live) (a b : Forest) : Type 0 where
  pub sound : IsSound S L
  pub fits : ValuesFit S L
  pub left : AreTreesOf S L a
  pub right : AreTreesOf S L b
  pub left_has_no_alias : HasNoAlias S a
  pub right_has_no_alias : HasNoAlias S b
  pub left_has_leaves : AreLeaves a
  pub right_has_leaves : AreLeaves b
  pub values_have_leaves : HasLeafValues S L

-- The substitution is a solution of the state, and makes both sides equal.
pub record Solves (S : State) (L : Live) (a b : Forest) (s : Substitution) : Type 0 where
  pub solution : IsSolution S L s
  pub equal : erase (apply s a) ≡ erase (apply s b)

-- What solves the equation is a solution of the state that the equation leaves: it gives no value that isn't needed.
pub record IsKept (S T : State) (L M : Live) (s : Substitution) : Type 0 where
  pub further : Substitution
  pub solution : IsSolution T M further
  pub agrees : AgreesOn S L s further

abbrev pub AreGranted : Judge → State → List Pending → Type 0
AreGranted J S ps = All (λ (p : Pending). J.granted S p.goal) ps

-- The state that a Yes speaks of: it follows the one that was asked, since what was pending is evaluated first.
pub record AnswersYes (J : Judge) (S : State) (L : Live) (r : Response) : Type 0 where
  pub last : State
  pub follows : Follows S last L
  pub granted : AreGranted J last S.pending
  pub response : IsResponseOf last follows.live r

pub record IsAnswered (J : Judge) (S : State) (c : Certainty) : Type 0 where
  pub response : Response
  pub is : J.responded S c ≡ Some response
  pub as_asked : response.certainty ≡ c

-- A normal form is a tree of the state that normalising leaves, which follows. It brings in no parameter.
pub record IsNormalForm (S T : State) (L : Live) (e : Env) (t u : Tree) : Type 0 where
  pub follows : Follows S T L
  pub tree : AreTreesOf T follows.live (alone u)
  pub no_parameter : HasNoParameter S L → holds is_param e ≡ false → holds is_param (alone t) ≡ false → HasNoParameter T follows.live × (holds is_param (alone u) ≡ false)

-- A goal without parameters.
pub record GoalHasNoParameter (g : Goal) : Type 0 where
  pub env : holds is_param g.env ≡ false
  pub clause : holds is_param (alone g.clause) ≡ false

abbrev pub GoalsHaveNoParameter : List Pending → Type 0
GoalsHaveNoParameter ps = All (λ (p : Pending). GoalHasNoParameter p.goal) ps

-- No parameter stands in the regions that are recorded.
abbrev pub RegionsHaveNoParameter : State → Type 0
RegionsHaveNoParameter S = All (λ t. holds is_param (alone t) ≡ false) S.regions

-- The state follows, and these are goals of it. Where there was no parameter before, none is brought in: not into values and goals, and not
-- into the regions that are recorded, where none stood there.
pub record LeavesGoals (S T : State) (L : Live) (ps : List Pending) (none_before : Type 0) : Type 0 where
  pub follows : Follows S T L
  pub goals : GoalsAreOf T follows.live ps
  pub no_parameter : none_before → HasNoParameter T follows.live × GoalsHaveNoParameter ps
  pub regions_without : none_before → RegionsHaveNoParameter S → RegionsHaveNoParameter T

-- The variables that the goal came with count.
abbrev pub RootsCount : State → Live → Type 0
RootsCount S L = (n : ℕ) (i : VariableInfo) → info S n ≡ Some i → i.is_root ≡ true → L n ≡ true

pub record NormalFormLaws (J : Judge) : Type 0 where
  -- A type or constant that is resolved and no alias is normal.
  pub rigid_is_normal : (S : State) (e : Env) (t : Tree) → IsResolved S (alone t) → is_type_or_constant (kind_of t.head) ≡ true → is_alias t.head ≡ false
      → J.normalized S e t ≡ Some (t, S)
  -- Normalising leaves what is pending as it is, and the state follows.
  pub normalizing_keeps_pending : (S T : State) (e : Env) (t u : Tree) → J.normalized S e t ≡ Some (u, T) → T.pending ≡ S.pending
  pub normalizing_follows : (S T : State) (L : Live) (e : Env) (t u : Tree) → IsSound S L → ValuesFit S L → AreTreesOf S L e → AreTreesOf S L (alone t)
      → J.normalized S e t ≡ Some (u, T) → IsNormalForm S T L e t u

pub record EquationLaws (J : Judge) : Type 0 where
  -- An accepted equation of sides without errors makes them equal, and gives no value that isn't needed.
  pub equation_equates : (S T : State) (L : Live) (e : Env) (a b : Forest) (gs : List Pending) → AreSides S L a b → HasNoError S a → HasNoError S b
      → J.equated S e a b ≡ Some (gs, T) → erase (resolved T a) ≡ erase (resolved T b)
  pub equation_is_most_general : (S T : State) (L M : Live) (e : Env) (a b : Forest) (gs : List Pending) → AreSides S L a b → HasNoError S a → HasNoError S b
      → J.equated S e a b ≡ Some (gs, T) → Within S L M → IsSound T M → (s : Substitution) → Solves S L a b s → IsKept S T L M s
  -- A refused equation has no solution.
  pub refused_has_no_solution : (S : State) (L : Live) (e : Env) (a b : Forest) → AreSides S L a b → J.equated S e a b ≡ None → (s : Substitution) → Solves S L a b s → ⊥
  -- Equating takes no variable away.
  pub equating_keeps_variables : (S T : State) (e : Env) (a b : Forest) (gs : List Pending) → J.equated S e a b ≡ Some (gs, T) → length S.variables ≤ length T.variables
  -- Equating leaves what is pending as it is; the goals that the equation leaves are goals of the state, which follows.
  pub equating_keeps_pending : (S T : State) (e : Env) (a b : Forest) (gs : List Pending) → J.equated S e a b ≡ Some (gs, T) → T.pending ≡ S.pending
  pub equating_follows : (S T : State) (L : Live) (e : Env) (a b : Forest) (gs : List Pending) → IsSound S L → ValuesFit S L → AreTreesOf S L e → AreTreesOf S L a → AreTreesOf S L b
      → J.equated S e a b ≡ Some (gs, T) → LeavesGoals S T L gs (HasNoParameter S L × (holds is_param e ≡ false) × (holds is_param a ≡ false) × (holds is_param b ≡ false))

pub record ResponseLaws (J : Judge) : Type 0 where
  -- With nothing pending no response is refused, and its certainty is the one asked, whatever regions are recorded.
  pub empty_is_answered : (S : State) (c : Certainty) → S.pending ≡ [] → IsAnswered J S c
  -- Then the response is of the state itself: each of its instances is one of the state, so it constrains nothing more.
  pub empty_is_of_state : (S : State) (L : Live) (c : Certainty) (r : Response) → S.pending ≡ [] → J.responded S c ≡ Some r → IsResponseOf S L r
  -- Yes is answered only where Yes was asked, and where all that was pending is granted.
  pub yes_was_asked : (S : State) (c : Certainty) (r : Response) → J.responded S c ≡ Some r → r.certainty ≡ Yes → c ≡ Yes
  pub yes_is_granted : (S : State) (L : Live) (c : Certainty) (r : Response) → IsSound S L → ValuesFit S L → GoalsAreOf S L S.pending
      → J.responded S c ≡ Some r → r.certainty ≡ Yes → AnswersYes J S L r

pub record GrantedLaws (J : Judge) : Type 0 where
  -- Settling takes no variable away.
  pub settling_keeps_variables : (S T : State) (c : Certainty) → J.settled S ≡ Some (c, T) → length S.variables ≤ length T.variables
  -- What settling leaves pending are goals of the state that it leaves, which follows.
  pub settling_follows : (S T : State) (L : Live) (c : Certainty) → IsSound S L → ValuesFit S L → GoalsAreOf S L S.pending → J.settled S ≡ Some (c, T)
      → LeavesGoals S T L T.pending (HasNoParameter S L × GoalsHaveNoParameter S.pending)
  -- What settling drops or replaces is granted at every state that follows and grants what settling leaves.
  pub settling_drops_granted : (S T U : State) (L : Live) (c : Certainty) → IsSound S L → ValuesFit S L → GoalsAreOf S L S.pending → J.settled S ≡ Some (c, T)
      → (f : Follows S T L) → GoalsAreOf T f.live T.pending → Follows T U f.live → AreGranted J U T.pending → AreGranted J U S.pending
  -- Where there was no parameter before, none stands in the values that a response says.
  pub responding_brings_none : (S : State) (L : Live) (c : Certainty) (r : Response) → IsSound S L → ValuesFit S L → GoalsAreOf S L S.pending → RootsCount S L
      → HasNoParameter S L → GoalsHaveNoParameter S.pending → J.responded S c ≡ Some r → holds is_param r.values ≡ false
  -- What is granted stays so at every state that follows.
  pub granted_stays : (S T : State) (L : Live) (g : Goal) → IsSound S L → ValuesFit S L → GoalIsOf S L g → Follows S T L → J.granted S g → J.granted T g

-- All laws.
pub record Lawful (J : Judge) : Type 0 where
  pub normal_forms : NormalFormLaws J
  pub equations : EquationLaws J
  pub responses : ResponseLaws J
  pub granted : GrantedLaws J
  pub alike_judged_alike : JudgesAlike J

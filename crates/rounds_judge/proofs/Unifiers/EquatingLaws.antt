-- The laws of an evaluator on what an equation leaves, of equations that are solved by looks.
use Rattle.std.proofs.Common.{◌≡◌, ◌≤◌, List, [], ◌∷◌, false, Option, Some, None, length, ap, subst, arith}
use Rattle.std.proofs.lemmas.List.Elements.{All-nil}
use Rattle.ir_trees.specs.Syntax.Trees.{Forest, holds, is_param}
use Rattle.candidate_eval.specs.Judges.States.{State, Pending}
use Rattle.candidate_eval.specs.Judges.Soundness.{Live, IsSound, ValuesFit, AreTreesOf, GoalIsOf}
use Rattle.candidate_eval.specs.Judges.Lawful.{GoalHasNoParameter, HasNoParameter, LeavesGoals, RegionsHaveNoParameter}
use Rattle.rounds_judge.specs.Aliases.Listed.{Listing}
use Rattle.rounds_judge.specs.Equations.Equating.{Pair, equated, looks, without_goals}
use Rattle.rounds_judge.specs.Equations.Standing.{IsListing}
use Rattle.rounds_judge.proofs.States.Later.{fits_later}
use Rattle.rounds_judge.proofs.Equations.Looks.{equated_pending, equated_variables, looked_keeps, start_stands}
use Rattle.rounds_judge.proofs.Parameters.Parameterless.{equated-free}

pub record NoGoals (o : Option State) (gs : List Pending) (T : State) : Type 0 where
  pub is : o ≡ Some T
  pub none : [] ≡ gs

pub no_goals : (o : Option State) (gs : List Pending) (T : State) → without_goals o ≡ Some (gs, T) → NoGoals o gs T
no_goals None gs T e = cc
no_goals (Some R) gs T e = record { is = ap Some (ap (λ (q : List Pending × State). q.1) (let is : ([], R) ≡ (gs, T) = cc in is)); none = ap (λ (q : List Pending × State). q.0) (let is : ([], R) ≡ (gs, T) = cc in is) }

pub equating_keeps_pending : (l : Listing) (S T : State) (a b : Forest) (gs : List Pending) → without_goals (equated l S a b) ≡ Some (gs, T) → T.pending ≡ S.pending
equating_keeps_pending l S T a b gs e = equated_pending l S T a b (no_goals (equated l S a b) gs T e).is

pub equating_keeps_variables : (l : Listing) (S T : State) (a b : Forest) (gs : List Pending) → without_goals (equated l S a b) ≡ Some (gs, T) → length S.variables ≤ length T.variables
equating_keeps_variables l S T a b gs e = let same = equated_variables l S T a b (no_goals (equated l S a b) gs T e).is in omega (arith, same)

pub equating_follows : (l : Listing) → IsListing l → (S T : State) (L : Live) (env a b : Forest) (gs : List Pending) → IsSound S L → ValuesFit S L → AreTreesOf S L a → AreTreesOf S L b
    → without_goals (equated l S a b) ≡ Some (gs, T) → LeavesGoals S T L gs (HasNoParameter S L × (holds is_param env ≡ false) × (holds is_param a ≡ false) × (holds is_param b ≡ false))
equating_follows l listing S T L env a b gs sound fits left right e =
    let n = no_goals (equated l S a b) gs T e in
    let ps : List Pair = record { scope = []; left = a; right = b } ∷ [] in
    let k = looked_keeps l listing L (looks l S ps) S T ps (start_stands S L a b sound fits left right) n.is in
    subst (λ gs. LeavesGoals S T L gs (HasNoParameter S L × (holds is_param env ≡ false) × (holds is_param a ≡ false) × (holds is_param b ≡ false))) n.none
    (record {
      follows = record { live = L; within = λ n l c. c; sound = k.sound; fits = fits_later k.later fits; later = k.later };
      goals = All-nil (λ (p : Pending). GoalIsOf T L p.goal);
      no_parameter = λ free. (
        (equated-free l listing S T L (RegionsHaveNoParameter S) a b sound fits left right free.0 (λ r. r) free.2 free.3 n.is).values,
        All-nil (λ (p : Pending). GoalHasNoParameter p.goal),
      );
      regions_without = λ free r. (equated-free l listing S T L (RegionsHaveNoParameter S) a b sound fits left right free.0 (λ r. r) free.2 free.3 n.is).regions r;
    })

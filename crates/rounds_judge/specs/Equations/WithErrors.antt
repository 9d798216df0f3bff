-- Equations of sides in which errors stand.
use Rattle.std.specs.Prelude.{◌≡◌, Some, List}
use Rattle.ir_trees.specs.Syntax.Trees.{Forest, erase}
use Rattle.ir_trees.specs.Unification.Substitutions.{Substitution}
use Rattle.candidate_eval.specs.Judges.Lawful.{AreSides, IsKept, Solves}
use Rattle.candidate_eval.specs.Judges.Soundness.{IsSound, Live, Within}
use Rattle.candidate_eval.specs.Judges.States.{Env, Judge, Pending, State, resolved}

-- An error is equal to itself alone: an accepted equation makes its sides equal, and gives no value that isn't needed, whatever errors stand in
-- them. The laws of evaluators ask it only of sides without errors, since another evaluator may take an error for any type.
pub record EquatesErrors (J : Judge) : Type 0 where
  pub equates : (S T : State) (L : Live) (e : Env) (a b : Forest) (gs : List Pending) → AreSides S L a b → J.equated S e a b ≡ Some (gs, T) → erase (resolved T a) ≡ erase (resolved T b)
  pub is_most_general : (S T : State) (L M : Live) (e : Env) (a b : Forest) (gs : List Pending) → AreSides S L a b → J.equated S e a b ≡ Some (gs, T) → Within S L M → IsSound T M
      → (s : Substitution) → Solves S L a b s → IsKept S T L M s

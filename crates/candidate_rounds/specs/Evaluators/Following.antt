-- Which states follow sound ones.
use Rattle.ir_trees.specs.Syntax.Trees.{Forest}
use Rattle.candidate_eval.specs.Judges.Soundness.{AreTreesOf, Follows, GoalsAreOf, IsSound, Live, ValuesFit}
use Rattle.candidate_eval.specs.Judges.States.{State}

-- Two sides of a sound state, whose values fit.
pub record AreSidesOf (S : State) (L : Live) (a b : Forest) : Type 0 where
  pub sound : IsSound S L
  pub fits : ValuesFit S L
  pub left : AreTreesOf S L a
  pub right : AreTreesOf S L b

-- An equation of sides of the state leads to one that follows.
abbrev pub FollowsEquation : State → State → Forest → Forest → Type 0
FollowsEquation S T a b = (L : Live) → AreSidesOf S L a b → Follows S T L

-- So does settling, where what is pending are goals of the state.
abbrev pub FollowsSettling : State → State → Type 0
FollowsSettling S T = (L : Live) → IsSound S L → ValuesFit S L → GoalsAreOf S L S.pending → Follows S T L

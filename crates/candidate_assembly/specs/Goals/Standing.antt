-- Goals at a state: what the state's values must be like, so that normal forms and values put in are trees that a goal may hold.
use Rattle.std.specs.Prelude.{◌≡◌, false}
use Rattle.ir_trees.specs.Unification.Substitutions.{alone}
use Rattle.ir_trees.specs.Syntax.Trees.{Forest, tree, Tree, holds, is_param}
use Rattle.candidate_eval.specs.Derivations.ImplRules.{TraitGoal}
use Rattle.candidate_eval.specs.Judges.Lawful.{HasNoParameter}
use Rattle.candidate_eval.specs.Judges.Soundness.{AreTreesOf, GoalsAreOf, IsSound, Live, ValuesFit}
use Rattle.candidate_eval.specs.Judges.States.{Env, State}
use Rattle.candidate_assembly.specs.Goals.Kinds.{KindRules}

-- The values of what counts make sense and hold no parameter; the trees are the state's, of what counts, and hold none either.
pub record IsValidAt (S : State) (e : Env) (ts : Forest) : Type 0 where
  pub live : Live
  pub sound : IsSound S live
  pub fits : ValuesFit S live
  pub values : HasNoParameter S live
  pub env : AreTreesOf S live e
  pub trees : AreTreesOf S live ts
  pub env_free : holds is_param e ≡ false
  pub trees_free : holds is_param ts ≡ false

abbrev pub GoalIsValid : {G : Type 0} → KindRules G → State → G → Type 0
GoalIsValid K S g = IsValidAt S (K.env_of g) (K.trees_of g)

-- a goal, and a tree beside it
abbrev pub IsValidBeside : {G : Type 0} → KindRules G → State → G → Tree → Type 0
IsValidBeside K S g t = IsValidAt S (K.env_of g) (tree t.head t.children (K.trees_of g))

-- A goal of a trait at a state beside what is pending there: the values of what counts make sense, and what is pending and the goal are of it.
pub record StandsWithPending (S : State) (L : Live) (g : TraitGoal) : Type 0 where
  pub sound : IsSound S L
  pub fits : ValuesFit S L
  pub goals : GoalsAreOf S L S.pending
  pub env : AreTreesOf S L g.env
  pub arguments : AreTreesOf S L g.reference.arguments

-- A goal and another tree beside it, as the type that the goal's self type unsizes to.
pub record BothAreValid {G : Type 0} (K : KindRules G) (S : State) (g : G) (t : Tree) : Type 0 where
  pub goal : GoalIsValid K S g
  pub tree : IsValidAt S (K.env_of g) (alone t)

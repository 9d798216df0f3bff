-- Sides of an equation whose aliases may be read as any types.
use Rattle.std.specs.Prelude.{◌≡◌, ℕ, true, false, Some, None}
use Rattle.ir_trees.specs.Syntax.Trees.{Forest, Kind}
use Rattle.candidate_eval.specs.Judges.Alike.{info}
use Rattle.candidate_eval.specs.Judges.Soundness.{AreLeaves, AreTreesOf, Live}
use Rattle.candidate_eval.specs.Judges.States.{State, VariableInfo, variable_kind}
use Rattle.rounds_judge.specs.Aliases.Listed.{Listing}
use Rattle.rounds_judge.specs.Aliases.OpenParts.{has_loose_alias}
use Rattle.rounds_judge.specs.Equations.Opening.{readied}

-- A variable for a parameter of some kind, of the newest universe, and without a value.
pub record IsFresh (S : State) (i : VariableInfo) : Type 0 where
  pub of : Kind
  pub kind : i.kind ≡ variable_kind of
  pub universe : i.universe ≡ S.newest_universe
  pub value : i.value ≡ None

-- Only fresh variables count.
abbrev pub AllFresh : State → Live → Type 0
AllFresh S L = (n : ℕ) (i : VariableInfo) → L n ≡ true → info S n ≡ Some i → IsFresh S i

-- Trees of the state: their variables and regions are leaves, and each alias in them stands within a closed type or constant, or is one.
pub record IsSide (S : State) (L : Live) (ts : Forest) : Type 0 where
  pub trees : AreTreesOf S L ts
  pub leaves : AreLeaves ts
  pub not_loose : has_loose_alias ts ≡ false

pub record OpenSides (l : Listing) (S : State) (L : Live) (a b : Forest) : Type 0 where
  pub fresh : AllFresh S L
  pub left : AreTreesOf S L a
  pub right : AreTreesOf S L b
  pub left_has_leaves : AreLeaves (readied l S a)
  pub right_has_leaves : AreLeaves (readied l S b)
  pub left_not_loose : has_loose_alias (readied l S a) ≡ false
  pub right_not_loose : has_loose_alias (readied l S b) ≡ false

-- What holds of a state and of the pairs that are left, from one look to the next.
use Rattle.std.specs.Prelude.{◌≡◌, ◌≤◌, true, false, Some, List, length}
use Rattle.std.specs.List.{All}
use Rattle.ir_trees.specs.declared.ir.heads.Flag.TheVariants as F
use Rattle.ir_trees.specs.declared.ir.heads.Head.{Head}
use Rattle.ir_trees.specs.Syntax.Flags.{mark}
use Rattle.ir_trees.specs.Syntax.Trees.{Tree, holds, is_alias, is_param, is_type, erase}
use Rattle.ir_trees.specs.Syntax.Binders.{escapes}
use Rattle.ir_trees.specs.Unification.Substitutions.{Substitution, alone, apply}
use Rattle.candidate_eval.specs.Judges.States.{State, value_at}
use Rattle.candidate_eval.specs.Judges.Soundness.{Live, IsSound, IsResolved, ValuesFit, AreLeaves, IsSolution, is_strange}
use Rattle.candidate_eval.specs.Judges.Lawful.{HasNoAlias, HasLeafValues}
use Rattle.rounds_judge.specs.Aliases.Listed.{Listing}
use Rattle.rounds_judge.specs.Equations.Equating.{Pair}
pub use Rattle.ir_trees.specs.Unification.Substitutions.{is_made}

-- A tree that means the same at every state, and one thing: no bound variable escapes from it, it has no variable, no parameter and no error, and
-- its placeholders are of the root.
pub record IsFixed (t : Tree) : Type 0 where
  pub is_closed : escapes 0 (alone t) ≡ false
  pub not_made : holds is_made (alone t) ≡ false
  pub no_parameter : holds is_param (alone t) ≡ false
  pub no_error : holds (mark F.Error) (alone t) ≡ false

-- A listed pair: an alias, and a type without aliases.
pub record IsListed (p : Tree × Tree) : Type 0 where
  pub alias : IsFixed p.0
  pub type : IsFixed p.1
  pub is_type : is_type p.1.head ≡ true
  pub no_alias : holds is_alias (alone p.1) ≡ false
  pub is_alias : is_alias p.0.head ≡ true

abbrev pub IsListing : Listing → Type 0
IsListing l = All IsListed l.pairs

-- Values hold no variable that has a value.
abbrev pub AreResolved : State → Type 0
AreResolved S = (h : Head) (t : Tree) → value_at S h ≡ Some t → IsResolved S (alone t)

-- Both sides are of the state, and closed under the binders that were entered, whose placeholders are of the state's universes.
pub record PairStands (S : State) (L : Live) (p : Pair) : Type 0 where
  pub left : holds (is_strange S L) p.left ≡ false
  pub right : holds (is_strange S L) p.right ≡ false
  pub left_closed : escapes (length p.scope) p.left ≡ false
  pub right_closed : escapes (length p.scope) p.right ≡ false
  pub universes : All (λ u. u ≤ S.newest_universe) p.scope

pub record Stands (S : State) (L : Live) (ps : List Pair) : Type 0 where
  pub sound : IsSound S L
  pub fits : ValuesFit S L
  pub pairs : All (PairStands S L) ps

-- No alias is left on either side once values are put in; and variables and regions are leaves, on both sides and in values.

pub record IsPlain (S : State) (p : Pair) : Type 0 where
  pub left_has_no_alias : HasNoAlias S p.left
  pub right_has_no_alias : HasNoAlias S p.right
  pub left_has_leaves : AreLeaves p.left
  pub right_has_leaves : AreLeaves p.right

pub record ArePlain (S : State) (L : Live) (ps : List Pair) : Type 0 where
  pub pairs : All (IsPlain S) ps
  pub values : HasLeafValues S L

-- The substitution is a solution of the state, and makes both sides of each pair equal.

abbrev pub IsSolvedBy : Substitution → Pair → Type 0
IsSolvedBy s p = erase (apply s p.left) ≡ erase (apply s p.right)

pub record SolvesAll (S : State) (L : Live) (ps : List Pair) (s : Substitution) : Type 0 where
  pub solution : IsSolution S L s
  pub equal : All (IsSolvedBy s) ps

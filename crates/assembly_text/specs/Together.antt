-- Whether the where clauses of two impls of a text can hold together, though none of them is refused alone.
use Rattle.std.specs.Prelude.{◌≡◌, ◌∷◌, [], ℕ, Bool, true, List}
use Rattle.ir_trees.specs.declared.decl.contents.ImplId.{ImplId}
use Rattle.ir_trees.specs.Declarations.Context.{Context, Grows}
use Rattle.candidate_eval.specs.Judges.Modes.{is_coherence}
use Rattle.candidate_rounds.specs.Evaluators.Known.{Evaluator}
use Rattle.overlaps.specs.Refused.{StaysBesideSteps}
use Rattle.overlaps.specs.Together.{ClausesKeepApart}
use Rattle.assembly_notation.specs.declared.given.Given.{Given}
use Rattle.assembly_text.specs.Solving.{IsOpenFor}

-- What a new evaluator, as it is asked whether two impls overlap, says of whether their where clauses keep them apart, and the evaluator that is
-- left: all stays but its table. Where it says that they do they can't hold together, and it is asked in coherence.
pub record IsApartAnswered (c : Context) (g : Given) (a b : ImplId) (last : Context) (o : Bool) : Type 0 where
  pub first : Evaluator
  pub left : Evaluator
  pub new : IsOpenFor c g first
  pub stays : StaysBesideSteps first left
  pub is : o ≡ true → ClausesKeepApart first a b
  pub in_coherence : o ≡ true → is_coherence g.mode ≡ true
  pub leaves : left.context ≡ last

-- A new evaluator says that they do, over a context that comes after that one.
pub record IsApart (first : Context) (g : Given) (a b : ImplId) : Type 0 where
  pub context : Context
  pub last : Context
  pub grows : Grows first context
  pub answered : IsApartAnswered context g a b last true

-- In words: `disjoint clauses`.
abbrev pub apart_text : List ℕ
apart_text = 100 ∷ 105 ∷ 115 ∷ 106 ∷ 111 ∷ 105 ∷ 110 ∷ 116 ∷ 32 ∷ 99 ∷ 108 ∷ 97 ∷ 117 ∷ 115 ∷ 101 ∷ 115 ∷ 10 ∷ []

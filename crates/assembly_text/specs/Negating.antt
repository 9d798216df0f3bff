-- What is said of whether two impls overlap: whether their where clauses can hold together, and which is known not to hold where the other impl does.
use Rattle.std.specs.Prelude.{◌≡◌, ◌++◌, ◌∷◌, [], ℕ, List, Option, Some, None, false, true}
use Rattle.std.specs.Fmt.{decimal}
use Rattle.ir_trees.specs.declared.decl.contents.ImplId.{ImplId}
use Rattle.ir_trees.specs.Declarations.Context.{Context}
use Rattle.overlaps.specs.declared.instance.CommonInstance.{CommonInstance}
use Rattle.overlaps.specs.declared.overlap.Overlap.{Overlap}
use Rattle.overlaps.specs.declared.overlap.Overlap.TheVariants as O
use Rattle.overlaps.specs.declared.overlap.WhereClause.{WhereClause}
use Rattle.assembly_notation.specs.declared.given.Given.{Given}
use Rattle.assembly_text.specs.Efforts.{effort_of_line}
use Rattle.assembly_text.specs.Overlapping.{AddsInstance, AddsOverlapWords, IsOverlapSolved, side_text}
use Rattle.assembly_text.specs.Specializing.{IsNegationAnswered}
use Rattle.assembly_text.specs.Together.{IsApartAnswered, apart_text}
use Rattle.candidate_rounds.specs.declared.rounds.effort.Effort.{Effort}

-- In words: `disjoint negative`, and the clause, which is of the `first` or of the `second` and has a number.
abbrev pub negated_text : ImplId → WhereClause → List ℕ
negated_text a w =
    (100 ∷ 105 ∷ 115 ∷ 106 ∷ 111 ∷ 105 ∷ 110 ∷ 116 ∷ 32 ∷ 110 ∷ 101 ∷ 103 ∷ 97 ∷ 116 ∷ 105 ∷ 118 ∷ 101 ∷ 32 ∷ [])
    ++ (side_text a w.of ++ (decimal w.number ++ 10 ∷ []))

-- To a text is added that clause; or else the instance of both.
abbrev pub AddsNegation : ImplId → CommonInstance → Option WhereClause → List ℕ → List ℕ → Type 0
AddsNegation a x None old new = AddsInstance x old new
AddsNegation a x (Some w) old new = new ≡ old ++ negated_text a w

-- what a new evaluator answers of that
pub record AddsUnlessNegated (c : Context) (g : Given) (a b : ImplId) (x : CommonInstance) (last : Context) (old new : List ℕ) : Type 0 where
  pub clause : Option WhereClause
  pub answered : IsNegationAnswered c g a b last clause
  pub added : AddsNegation a x clause old new

-- Of two impls that may overlap there it is asked first whether their where clauses can hold together.
pub data AddsUnlessApart (c : Context) (g : Given) (a b : ImplId) (x : CommonInstance) (last : Context) (old new : List ℕ) : Type 0 where
  -- a new evaluator answers that they can't, and this is added
  adds_apart : IsApartAnswered c g a b last true → new ≡ old ++ apart_text → AddsUnlessApart c g a b x last old new
  -- it doesn't, and the instance of both is added
  adds_instance : IsApartAnswered c g a b last false → g.negative ≡ false → AddsInstance x old new → AddsUnlessApart c g a b x last old new
  -- it doesn't, and it is asked for which clause is known not to hold where the other impl does: this is added, if any, or else the instance
  adds_negation : (mid : Context) → IsApartAnswered c g a b mid false → g.negative ≡ true → AddsUnlessNegated mid g a b x last old new → AddsUnlessApart c g a b x last old new

-- that they may overlap isn't said
abbrev pub IsDecided : Overlap → Type 0
IsDecided (O.May x) = ⊥
IsDecided _ = Unit {0}

-- To a text is added whether two impls overlap, in words: what keeps them apart alone, or why they may; or else what is said where they may overlap.
pub data AddsOverlap (c : Context) (g : Given) (a b : ImplId) (effort : Effort) (last : Context) (old new : List ℕ) : Type 0 where
  adds_answer : (o : Overlap) → IsOverlapSolved c g a b effort last o → IsDecided o → AddsOverlapWords a o old new → AddsOverlap c g a b effort last old new
  adds_unless_apart : (x : CommonInstance) (mid : Context) → IsOverlapSolved c g a b effort mid (O.May x) → AddsUnlessApart mid g a b x last old new → AddsOverlap c g a b effort last old new

-- The same of some two, by the effort that the line names: which two it names isn't said.
pub record AddsSomeOverlap (line : List ℕ) (c : Context) (g : Given) (last : Context) (old new : List ℕ) : Type 0 where
  pub first : ImplId
  pub second : ImplId
  pub adds : AddsOverlap c g first second (effort_of_line line) last old new

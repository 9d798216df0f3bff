-- Why two impls of a text overlap, may overlap or don't: what `overlap` says of them, and lines behind it.
use Rattle.std.specs.Prelude.{◌≡◌, ◌++◌, ℕ, List, All}
use Rattle.ir_trees.specs.declared.decl.contents.ImplId.{ImplId}
use Rattle.ir_trees.specs.Declarations.Context.{Context}
use Rattle.ir_trees.specs.Syntax.Trees.{Tree}
use Rattle.ir_trees.specs.Syntax.Words.{IsClause}
use Rattle.assembly_notation.specs.declared.given.Given.{Given}
use Rattle.assembly_text.specs.Efforts.{effort_of_line}
use Rattle.assembly_text.specs.declared.reasons.Reasoned.{Reasoned}
use Rattle.assembly_text.specs.Explaining.{IsAsked}
use Rattle.assembly_text.specs.Negating.{AddsOverlap}
use Rattle.candidate_rounds.specs.declared.rounds.effort.Effort.{Effort}

-- The numbers of open clauses and of goals that were asked for are of the context.
pub record AreReasoned (ts : List Tree) (r : Reasoned) : Type 0 where
  pub clauses : All (λ x. IsClause ts x.clause) r.clauses.items
  pub goals : All (IsAsked ts) r.goals.items

-- To a text some words are added.
abbrev pub AddsMore : List ℕ → List ℕ → Type 0
AddsMore old new = (word : List ℕ) × (new ≡ old ++ word)

-- To a text is added whether the two impls overlap, and then some words.
pub record AddsOverlapAndMore (c : Context) (g : Given) (a b : ImplId) (effort : Effort) (old new : List ℕ) : Type 0 where
  pub mid : Context
  pub said : List ℕ
  pub says : AddsOverlap c g a b effort mid old said
  pub more : AddsMore said new

-- The same of some two, by the effort that the line names: which two it names isn't said, nor what the words behind say.
pub record AddsSomeOverlapAndMore (line : List ℕ) (c : Context) (g : Given) (old new : List ℕ) : Type 0 where
  pub first : ImplId
  pub second : ImplId
  pub adds : AddsOverlapAndMore c g first second (effort_of_line line) old new

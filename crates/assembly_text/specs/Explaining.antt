-- Why a goal comes to what it does, and by which candidates.
use Rattle.std.specs.Prelude.{ℕ, Option, List, All, IfSome}
use Rattle.ir_trees.specs.declared.ir.kinds.TraitPredicate.{TraitPredicate}
use Rattle.ir_trees.specs.Declarations.Context.{Context}
use Rattle.ir_trees.specs.Syntax.Trees.{Tree}
use Rattle.ir_trees.specs.Syntax.Words.{IsArgs, IsClause}
use Rattle.candidate_rounds.specs.declared.rounds.goals.Verdict.{Verdict}
use Rattle.candidate_rounds.specs.Table.Goals.{Each}
use Rattle.candidate_rounds.specs.Table.Steps.{IsStep}
use Rattle.assembly_text.specs.declared.explaining.AskedGoal.{AskedGoal}
use Rattle.assembly_text.specs.declared.explaining.Reasons.{Reasons}
use Rattle.assembly_text.specs.declared.explaining.Reasons.TheVariants as R
use Rattle.assembly_notation.specs.declared.given.Given.{Given}
use Rattle.assembly_text.specs.Printing.{AddsWordsBefore}
use Rattle.assembly_text.specs.Solving.{IsSolvedBefore}
use Rattle.candidate_rounds.specs.declared.rounds.effort.Effort.{Effort}

-- The numbers of a goal that was asked for are of the context.
pub record IsAsked (ts : List Tree) (x : AskedGoal) : Type 0 where
  pub clause : IsClause ts x.clause
  pub values : IfSome x.values (IsArgs ts)

-- those of all reasons
abbrev pub AreReasons : List Tree → Reasons → Type 0
AreReasons ts (R.Steps t) = Each (IsStep ts) t.steps.items
AreReasons ts (R.Goals xs ns) = All (IsAsked ts) xs.items

-- To a text are added some words for the candidates of a goal, and then what the goal comes to, in words.
pub record AddsCandidates (c : Context) (g : Given) (p : TraitPredicate) (effort : Effort) (last : Context) (old new : List ℕ) : Type 0 where
  pub verdict : Option Verdict
  pub solved : IsSolvedBefore c g p effort last verdict
  pub added : AddsWordsBefore verdict old new

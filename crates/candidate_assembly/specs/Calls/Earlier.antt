-- Contexts that have grown: what is said of a goal is said as each earlier one has it, since what is declared stays.
use Rattle.ir_trees.specs.Declarations.Context.{Context, Grows}
use Rattle.ir_trees.specs.Validity.WellFormed.{IsWellFormedTable}
use Rattle.candidate_assembly.specs.Answers.Listing.{Listed}

-- A context that has grown to this one, where nothing is wrong with what is declared.
pub record IsEarlier (c now : Context) : Type 0 where
  pub grows : Grows c now
  pub table : IsWellFormedTable c

-- A list of which this holds as each earlier context has it.
abbrev pub AtEachEarlier : Context → (Context → Listed → Type 0) → Listed → Type 0
AtEachEarlier now R l = (c : Context) → IsEarlier c now → R c l

use Rattle.std.proofs.Common.{◌≡◌, ℕ, ◌<◌, get_or}
use Rattle.ir_trees.specs.Declarations.Contents.{Impl}
use Rattle.ir_trees.specs.Declarations.Context.{world_of}
use Rattle.ir_trees.specs.Validity.Faults.{ImplFits}
use Rattle.ir_trees.proofs.decl.arity.first_unfit.Given as goal

-- the headers before fit
abbrev pub invariant-loop-number : goal.invariant-loop-number
invariant-loop-number l = (k : ℕ) (j : Impl) → k < l.number → j ≡ get_or l.impls k j → ImplFits (world_of l.definitions) l.nodes j

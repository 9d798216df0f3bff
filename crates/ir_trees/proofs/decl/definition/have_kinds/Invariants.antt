use Rattle.std.proofs.Common.{◌≡◌, ℕ, ◌<◌, slice_index_or}
use Rattle.ir_trees.specs.declared.ir.kinds.VarKind.TheVariants as V
use Rattle.ir_trees.specs.declared.ir.kinds.GenericArg.TheVariants as A
use Rattle.ir_trees.specs.Declarations.Context.{parameter_kind}
use Rattle.ir_trees.specs.Syntax.Kinds.{arg_kind}
use Rattle.ir_trees.proofs.decl.definition.have_kinds.Given as goal

-- the arguments before are of the kinds in their places
abbrev pub invariant-loop-i : goal.invariant-loop-i
invariant-loop-i l =
    (k : ℕ) → k < l.i → parameter_kind (slice_index_or l.kinds k V.Ty) ≡ arg_kind (slice_index_or l.list k (A.Ty (record { 0 = 0 })))

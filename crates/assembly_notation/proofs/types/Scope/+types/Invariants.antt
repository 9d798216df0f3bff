use Rattle.std.proofs.Common.{◌≡◌, List, Bool, ◌+◌, ◌*◌}
use Rattle.std.specs.Prelude.{count_by}
use Rattle.ir_trees.specs.Declarations.Context.{Context, Grows}
use Rattle.ir_trees.specs.declared.ir.kinds.Binder.{Binder}
use Rattle.ir_trees.specs.declared.ir.kinds.ExistentialPredicate.{ExistentialPredicate}
use Rattle.ir_trees.specs.declared.ir.kinds.GenericArg.{GenericArg}
use Rattle.ir_trees.specs.Syntax.Words.{ListFits, BoundsFit, names_trait}
use Rattle.ir_trees.proofs.Growth.Made.{one_if}
use Rattle.assembly_notation.specs.Params.{ListLacks, BoundsLack}
use Rattle.assembly_notation.proofs.types.Scope.+types.Given as goal

-- the types have grown since the call, and the list has types of them, without a parameter where none may stand
pub record IsRead (strict : Bool) (old : Context) (new : Context) (list : List GenericArg) : Type 0 where
  pub grows : Grows old new
  pub fits : ListFits new.trees list
  pub no_param : ListLacks strict new.trees list

-- the same of bounds, of which one or none is a principal
pub record AreRead (strict : Bool) (old : Context) (new : Context) (list : List (Binder ExistentialPredicate)) (has_principal : Bool) : Type 0 where
  pub grows : Grows old new
  pub fit : BoundsFit new.trees list
  pub no_param : BoundsLack strict new.trees list
  pub principals : count_by (λ b. names_trait b.value) list ≡ one_if has_principal

abbrev pub decreases-read_type : goal.decreases-read_type
decreases-read_type g l = 7 * l.depth

abbrev pub decreases-read_arg : goal.decreases-read_arg
decreases-read_arg g l = 7 * l.depth + 1

abbrev pub decreases-read_args : goal.decreases-read_args
decreases-read_args g l = 7 * l.depth + 2

abbrev pub decreases-read_fn : goal.decreases-read_fn
decreases-read_fn g l = 7 * l.depth + 3

abbrev pub decreases-read_bound : goal.decreases-read_bound
decreases-read_bound g l = 7 * l.depth + 4

abbrev pub decreases-read_bounds : goal.decreases-read_bounds
decreases-read_bounds g l = 7 * l.depth + 6

abbrev pub decreases-pass_bounds : goal.decreases-pass_bounds
decreases-pass_bounds g l = 7 * l.depth + 5

abbrev pub invariant-read_args-loop-place : goal.invariant-read_args-loop-place
invariant-read_args-loop-place g l = IsRead g.M.Build.is_strict (g.M.Build.context l.fn.self.maker) (g.M.Build.context l.self.maker) l.list.items

abbrev pub invariant-pass_bounds-loop-before : goal.invariant-pass_bounds-loop-before
invariant-pass_bounds-loop-before g l = Grows (g.M.Build.context l.fn.self.maker) (g.M.Build.context l.self.maker)

abbrev pub invariant-read_bounds-loop-begin : goal.invariant-read_bounds-loop-begin
invariant-read_bounds-loop-begin g l = AreRead g.M.Build.is_strict (g.M.Build.context l.fn.self.maker) (g.M.Build.context l.self.maker) l.list.items l.has_principal

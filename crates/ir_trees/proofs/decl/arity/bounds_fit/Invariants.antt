use Rattle.std.proofs.Common.{ℕ, ◌<◌, get_or}
use Rattle.ir_trees.specs.declared.ir.kinds.Binder.{Binder}
use Rattle.ir_trees.specs.declared.ir.kinds.ExistentialPredicate.{ExistentialPredicate}
use Rattle.ir_trees.specs.declared.ir.kinds.ExistentialPredicate.TheVariants as E
use Rattle.ir_trees.specs.Declarations.Context.{world_of}
use Rattle.ir_trees.specs.Declarations.References.{Takes}
use Rattle.ir_trees.specs.Syntax.Words.{pred_kind_tree}
use Rattle.ir_trees.proofs.decl.arity.bounds_fit.Given as goal

abbrev pub past : Binder ExistentialPredicate
past = record { vars = record { 0 = 0 }; value = E.Trait (record { def_id = record { 0 = 0 }; args = record { 0 = 0 } }) }

-- the bounds before take their arguments
abbrev pub invariant-loop-bound : goal.invariant-loop-bound
invariant-loop-bound l = (k : ℕ) → k < l.bound-index → Takes (world_of l.definitions) (pred_kind_tree l.nodes (get_or l.bounds k past))

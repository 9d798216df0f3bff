use Rattle.std.proofs.Common.{ℕ, ◌<◌}
use Rattle.ir_trees.specs.Declarations.Context.{world_of}
use Rattle.ir_trees.specs.Syntax.Nodes.{tree_at}
use Rattle.ir_trees.specs.Declarations.References.{FitsAmong}
use Rattle.ir_trees.proofs.decl.arity.nodes_fit.Given as goal

-- the nodes before fit
abbrev pub invariant-loop-number : goal.invariant-loop-number
invariant-loop-number l = (k : ℕ) → k < l.number → FitsAmong (world_of l.definitions) (tree_at l.nodes k)

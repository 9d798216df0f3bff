use Rattle.std.proofs.Common.{◌≡◌, ℕ, ◌<◌, false}
use Rattle.ir_trees.specs.Declarations.Names.{names_unknown}
use Rattle.ir_trees.specs.Syntax.Nodes.{tree_at}
use Rattle.ir_trees.proofs.decl.arity.any_names_unknown.Given as goal

-- none of the nodes before does
abbrev pub invariant-loop-number : goal.invariant-loop-number
invariant-loop-number l = (k : ℕ) → k < l.number → names_unknown l.definitions (tree_at l.nodes k).head ≡ false

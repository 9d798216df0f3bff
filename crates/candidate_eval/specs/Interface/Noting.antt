-- Why what stands below a node wasn't noted in a list.
use Rattle.std.specs.Prelude.{◌<◌, ◌≤◌, ℕ, length, List}
use Rattle.ir_trees.specs.declared.ir.stop.Stop.{Stop}
use Rattle.ir_trees.specs.declared.ir.stop.Stop.TheVariants.{Memory, NodesFull}
use Rattle.ir_trees.specs.Syntax.Nodes.{tree_at}
use Rattle.ir_trees.specs.Syntax.Trees.{Tree, count}

-- A node of the context has 2^64 - 1 children or more: they can't be counted.
pub record HasWideNode (ts : List Tree) : Type 0 where
  pub number : ℕ
  pub inside : number < length ts
  pub wide : 18446744073709551615 ≤ count (tree_at ts number).children

-- The list didn't grow, or the children of a node couldn't be counted.
pub data IsNotingStop (ts : List Tree) : Stop → Type 0 where
  refused_note : IsNotingStop ts Memory
  at_wide_node : HasWideNode ts → IsNotingStop ts NodesFull

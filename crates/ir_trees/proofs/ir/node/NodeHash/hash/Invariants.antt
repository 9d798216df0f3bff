use Rattle.std.proofs.Common.{◌≡◌, ◌++◌, take, length}
use Rattle.std.specs.Prelude.{fold}
use Rattle.std.specs.List.{flat_map}
use Rattle.std.specs.Hash.{usize, u32}
use Rattle.ir_trees.specs.Syntax.Nodes.{head_of}
use Rattle.ir_trees.specs.Syntax.Shapes.{child_numbers, head_input}
use Rattle.ir_trees.proofs.ir.node.NodeHash.hash.Given as goal

abbrev pub invariant-loop-i : goal.invariant-loop-i
invariant-loop-i g l =
    l.state ≡ fold g.H.Hasher.write l.fn.state (head_input (head_of l.self) ++ (usize (length (child_numbers l.self)) ++ flat_map u32 (take l.i (child_numbers l.self))))

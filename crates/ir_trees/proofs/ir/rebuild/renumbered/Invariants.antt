use Rattle.std.proofs.Common.{◌≡◌, take}
use Rattle.std.specs.Prelude.{map}
use Rattle.ir_trees.specs.Syntax.Kinds.{numbers, sorts, arg_child}
use Rattle.ir_trees.proofs.ir.rebuild.renumbered.Given as goal

abbrev pub invariant-loop-i : goal.invariant-loop-i
invariant-loop-i l = record {
  numbers : numbers (map arg_child l.out.items) ≡ take l.i l.numbers;
  sorts : sorts (map arg_child l.out.items) ≡ take l.i (sorts (map arg_child l.list));
}

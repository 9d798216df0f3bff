use Rattle.std.proofs.Common.{◌≡◌, ◌++◌, take}
use Rattle.ir_trees.specs.Validity.Held.{held_values}
use Rattle.ir_trees.proofs.decl.held.add_values.Given as goal

-- those before are added
abbrev pub invariant-loop-value : goal.invariant-loop-value
invariant-loop-value l = l.held.items ≡ l.fn.held.items ++ held_values l.owner (take l.value-index l.values)

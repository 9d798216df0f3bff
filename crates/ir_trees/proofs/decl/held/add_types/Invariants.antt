use Rattle.std.proofs.Common.{◌≡◌, ◌++◌, take}
use Rattle.std.specs.Prelude.{map}
use Rattle.ir_trees.specs.Validity.Held.{held_type}
use Rattle.ir_trees.proofs.decl.held.add_types.Given as goal

-- those before are added
abbrev pub invariant-loop-ty : goal.invariant-loop-ty
invariant-loop-ty l = l.held.items ≡ l.fn.held.items ++ map (held_type l.owner) (take l.ty-index l.types)

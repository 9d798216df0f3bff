use Rattle.std.proofs.Common.{◌≡◌, drop}
use Rattle.std.specs.List.{list_any}
use Rattle.ir_trees.specs.Validity.Misplaced.{held_escapes}
use Rattle.ir_trees.proofs.decl.misplaced.any_escapes.Given as goal

abbrev pub invariant-loop-held : goal.invariant-loop-held
invariant-loop-held l =
    let f = held_escapes l.nodes in
    list_any f l.fn.held ≡ list_any f (drop l.held-index l.fn.held)

use Rattle.std.proofs.Common.{◌≡◌, drop}
use Rattle.ir_trees.specs.Validity.Misplaced.{is_misplaced, with_self}
use Rattle.ir_trees.specs.Declarations.Parameters.{kinds_of}
use Rattle.ir_trees.specs.Syntax.Kinds.{numbers}
use Rattle.ir_trees.specs.Syntax.Nodes.{any_holds, trees_at, children_of}
use Rattle.ir_trees.proofs.decl.misplaced.+number_misplaces.Given as goal

abbrev pub decreases-number_misplaces : goal.decreases-number_misplaces
decreases-number_misplaces l = l.number

abbrev pub invariant-loop-i : goal.invariant-loop-i
invariant-loop-i l =
    let ks = numbers (children_of l.node) in
    let mark = is_misplaced l.what (with_self l.after_self (kinds_of l.parameters)) in
    any_holds mark (trees_at l.nodes ks) ≡ any_holds mark (trees_at l.nodes (drop l.i ks))

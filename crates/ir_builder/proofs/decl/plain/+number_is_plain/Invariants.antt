use Rattle.std.proofs.Common.{◌≡◌, drop}
use Rattle.ir_trees.specs.Validity.Misplaced.{with_self}
use Rattle.ir_builder.specs.Calls.Plain.{is_doubtful}
use Rattle.ir_trees.specs.Declarations.Parameters.{kinds_of}
use Rattle.ir_trees.specs.Syntax.Kinds.{numbers}
use Rattle.ir_trees.specs.Syntax.Nodes.{any_holds, trees_at, children_of}
use Rattle.ir_builder.proofs.decl.plain.+number_is_plain.Given as goal

abbrev pub decreases-number_is_plain : goal.decreases-number_is_plain
decreases-number_is_plain l = l.number

abbrev pub invariant-loop-i : goal.invariant-loop-i
invariant-loop-i l =
    let ks = numbers (children_of l.node) in
    let mark = is_doubtful (with_self l.after_self (kinds_of l.parameters)) in
    any_holds mark (trees_at l.nodes ks) ≡ any_holds mark (trees_at l.nodes (drop l.i ks))

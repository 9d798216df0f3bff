use Rattle.std.proofs.Common.{◌≡◌, drop}
use Rattle.ir_trees.specs.Instantiation.Folding.{lacks_argument}
use Rattle.ir_trees.specs.Syntax.Kinds.{numbers}
use Rattle.ir_trees.specs.Syntax.Nodes.{any_holds, trees_at, children_of}
use Rattle.ir_trees.specs.Syntax.Words.{args_forest}
use Rattle.ir_folds.proofs.decl.parameters.+number_lacks.Given as goal

abbrev pub decreases-number_lacks : goal.decreases-number_lacks
decreases-number_lacks l = l.number

abbrev pub invariant-loop-i : goal.invariant-loop-i
invariant-loop-i l =
    let ks = numbers (children_of l.node) in
    let lacks = lacks_argument (args_forest l.cx.trees l.args) in
    any_holds lacks (trees_at l.cx.trees ks) ≡ any_holds lacks (trees_at l.cx.trees (drop l.i ks))

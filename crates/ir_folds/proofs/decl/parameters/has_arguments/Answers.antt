use Rattle.std.proofs.Common.{subst, ◌≡◌, ℕ}
use Rattle.ir_trees.specs.Instantiation.Folding.{lacks_argument}
use Rattle.ir_trees.specs.Syntax.Nodes.{tree_at}
use Rattle.ir_trees.specs.Syntax.Trees.{tree_holds}
use Rattle.ir_trees.specs.Syntax.Words.{args_forest}
use Rattle.ir_folds.proofs.Instantiation.Arguments.{nothing-lacks}
use Rattle.ir_trees.proofs.Syntax.Lists.{below_kind}
use Rattle.ir_folds.proofs.decl.parameters.has_arguments.Goals as goal

pub number_lacks-requires-clause-inside : goal.number_lacks-requires-clause-inside
number_lacks-requires-clause-inside g c = rw c.number.ensures (below_kind _ _ (g.N.Numbered.kind c.args.of) (g.met.N.Numbered.is_there c.args.of) c.requires.of)

pub returns-clause-list : goal.returns-clause-list
returns-clause-list g c = λ list.
    let lacks = lacks_argument (args_forest c.args.cx.now.trees c.args.args) in
    nothing-lacks (args_forest c.args.cx.now.trees c.args.args) c.args.cx.now.trees (g.N.Numbered.number_of c.args.of) (g.N.Numbered.kind c.args.of) c.number_lacks.result
    (g.met.N.Numbered.is_there c.args.of) list c.requires.of
    (subst (λ (n : ℕ). c.number_lacks.result ≡ tree_holds lacks (tree_at c.args.cx.now.trees n)) c.number.ensures c.number_lacks.ensures)

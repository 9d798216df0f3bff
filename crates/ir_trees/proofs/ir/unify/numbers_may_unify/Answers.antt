use Rattle.std.proofs.Common.{◌≡◌, true, ℕ}
use Rattle.ir_trees.specs.Syntax.Nodes.{tree_at}
use Rattle.ir_trees.specs.Unification.Unify.{trees_may_unify}
use Rattle.ir_trees.proofs.Traversal.Noted.{each-of-none}
use Rattle.ir_trees.proofs.ir.unify.numbers_may_unify.Goals as goal

pub pair_may_unify-requires-clause-walked : goal.pair_may_unify-requires-clause-walked
pair_may_unify-requires-clause-walked g c =
    let P : ℕ × ℕ → Type 0 = λ p. trees_may_unify c.args.right (tree_at (g.T.Trees.trees c.args.trees.now) p.0) (tree_at (g.T.Trees.trees c.args.trees.now) p.1) ≡ true in
    each-of-none P c.new-walked.result c.new-walked.ensures

use Rattle.std.proofs.Common.{◌≡◌, false, ℕ}
use Rattle.ir_trees.specs.Syntax.Binders.{tree_escapes}
use Rattle.ir_trees.specs.Syntax.Nodes.{tree_at}
use Rattle.ir_trees.proofs.Traversal.Noted.{each-of-none}
use Rattle.ir_trees.proofs.ir.walks.number_escapes.Goals as goal

pub escapes_unless_walked-requires-clause-walked : goal.escapes_unless_walked-requires-clause-walked
escapes_unless_walked-requires-clause-walked g c =
    let P : ℕ × ℕ → Type 0 = λ p. tree_escapes p.1 (tree_at (g.T.Trees.trees c.args.trees.now) p.0) ≡ false in
    each-of-none P c.new-walked.result c.new-walked.ensures

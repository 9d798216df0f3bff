use Rattle.std.proofs.Common.{◌≡◌, false}
use Rattle.ir_trees.specs.Syntax.Nodes.{tree_at}
use Rattle.ir_trees.specs.Syntax.Trees.{tree_holds}
use Rattle.ir_trees.proofs.Traversal.Noted.{each-of-none}
use Rattle.candidate_rounds.proofs.rounds.keys.stands.Goals as goal

pub has_marked-requires-clause-walked : goal.has_marked-requires-clause-walked
has_marked-requires-clause-walked g c =
    each-of-none (λ n. tree_holds (g.M.Mark.marks c.args.mark.now) (tree_at c.args.cx.now.trees n) ≡ false) c.new-walked.result c.new-walked.ensures

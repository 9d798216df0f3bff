use Rattle.std.proofs.Common.{◌≡◌, ◌∙◌, ℕ, subst}
use Rattle.ir_trees.specs.Syntax.Nodes.{tree_at}
use Rattle.ir_trees.specs.Syntax.Trees.{tree_holds}
use Rattle.ir_trees.proofs.Syntax.Children.{list-marked}
use Rattle.ir_trees.proofs.Syntax.Lists.{below_kind}
use Rattle.candidate_rounds.proofs.rounds.walking.has_marked.Goals as goal

pub number_holds-requires-clause-number : goal.number_holds-requires-clause-number
number_holds-requires-clause-number g c = rw c.number.ensures (below_kind _ _ (g.N.Numbered.kind c.args.of) (g.met.N.Numbered.is_there c.args.of) c.requires.of)

pub returns-clause-list : goal.returns-clause-list
returns-clause-list g c = λ list.
    let ts = c.args.cx.now.trees in
    subst (λ (n : ℕ). c.number_holds.result ≡ tree_holds (g.M.Mark.marks c.args.mark.now) (tree_at ts n)) c.number.ensures c.number_holds.ensures.is
    ∙ list-marked ts (g.N.Numbered.number_of c.args.of) (g.M.Mark.marks c.args.mark.now) (g.met.M.Mark.no_list c.args.mark.now) (g.N.Numbered.kind c.args.of) (g.met.N.Numbered.is_there c.args.of) list c.requires.of

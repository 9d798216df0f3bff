use Rattle.std.proofs.Common.{subst, ◌≡◌, ◌∙◌, ℕ}
use Rattle.ir_trees.specs.Syntax.Flags.{mark}
use Rattle.ir_trees.specs.Syntax.Marks.{marked}
use Rattle.ir_trees.specs.Syntax.Nodes.{tree_at}
use Rattle.ir_trees.specs.Syntax.Trees.{tree_holds}
use Rattle.ir_trees.proofs.Syntax.Children.{list-holds}
use Rattle.ir_trees.proofs.Syntax.Lists.{below_kind}
use Rattle.ir_trees.proofs.ir.trees.Trees.has.Goals as goal

pub marks-requires : goal.marks-requires
marks-requires g c = rw c.number.ensures (below_kind _ _ (g.N.Numbered.kind c.args.of) (g.met.N.Numbered.is_there c.args.of) c.requires)

pub returns-clause-is : goal.returns-clause-is
returns-clause-is g c =
    let ts = g.Self.Trees.trees c.args.self.now in
    c.has.ensures ∙ subst (λ (n : ℕ). marked c.marks.result c.args.flag ≡ tree_holds (mark c.args.flag) (tree_at ts n)) c.number.ensures (c.marks.ensures c.args.flag)

pub returns-clause-list : goal.returns-clause-list
returns-clause-list g c = λ list.
    let ts = g.Self.Trees.trees c.args.self.now in
    c.has.ensures ∙ subst (λ (n : ℕ). marked c.marks.result c.args.flag ≡ tree_holds (mark c.args.flag) (tree_at ts n)) c.number.ensures (c.marks.ensures c.args.flag)
    ∙ list-holds ts (g.N.Numbered.number_of c.args.of) c.args.flag (g.N.Numbered.kind c.args.of) (g.met.N.Numbered.is_there c.args.of) list c.requires

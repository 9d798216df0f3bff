use Rattle.ir_trees.proofs.Growth.Distinct.{same-by-number}
use Rattle.ir_trees.proofs.Syntax.Lists.{below_kind}
use Rattle.ir_trees.proofs.ir.trees.Trees.same.Goals as goal

pub returns : goal.returns
returns g c =
    same-by-number (g.Self.Trees.trees c.args.self.now) _ _ c.number.result c.number-2.result c.recall_distinct.ensures
    (below_kind _ _ (g.N.Numbered.kind c.args.a) (g.met.N.Numbered.is_there c.args.a) c.requires.a)
    (below_kind _ _ (g.N.Numbered.kind c.args.b) (g.met.N.Numbered.is_there c.args.b) c.requires.b)
    c.number.ensures c.number-2.ensures

use Rattle.ir_trees.proofs.Syntax.Lists.{below_kind}
use Rattle.ir_trees.proofs.ir.trees.Trees.may_unify.Goals as goal

pub numbers_may_unify-requires-clause-a : goal.numbers_may_unify-requires-clause-a
numbers_may_unify-requires-clause-a g c = rw c.number.ensures (below_kind _ _ (g.N.Numbered.kind c.args.a) (g.met.N.Numbered.is_there c.args.a) c.requires.a)

pub numbers_may_unify-requires-clause-b : goal.numbers_may_unify-requires-clause-b
numbers_may_unify-requires-clause-b g c = rw c.number-2.ensures (below_kind _ _ (g.N.Numbered.kind c.args.b) (g.met.N.Numbered.is_there c.args.b) c.requires.b)

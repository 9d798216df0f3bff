use Rattle.std.proofs.Common.{refl, ◌∙◌}
use Rattle.ir_trees.specs.Syntax.Trees.{ArgumentsKind}
use Rattle.ir_trees.proofs.Syntax.Lists.{below_kind}
use Rattle.ir_trees.proofs.Unification.MayUnify.{list_rejected}
use Rattle.ir_trees.proofs.Unification.Pairs.{list_answer}
use Rattle.ir_trees.proofs.ir.trees.Trees.args_may_unify.Goals as goal

pub numbers_may_unify-requires : goal.numbers_may_unify-requires
numbers_may_unify-requires g c = record { a = below_kind _ _ ArgumentsKind refl c.requires.a; b = below_kind _ _ ArgumentsKind refl c.requires.b }

pub returns-clause-is : goal.returns-clause-is
returns-clause-is g c = c.numbers_may_unify.ensures ∙ list_answer c.args.right (g.Self.Trees.trees c.args.self.now) c.args.a.0 c.args.b.0 c.requires.a c.requires.b

pub returns-clause-no_common_instance : goal.returns-clause-no_common_instance
returns-clause-no_common_instance g c =
    list_rejected c.args.right _ _ c.numbers_may_unify.result
    (c.numbers_may_unify.ensures ∙ list_answer c.args.right (g.Self.Trees.trees c.args.self.now) c.args.a.0 c.args.b.0 c.requires.a c.requires.b)

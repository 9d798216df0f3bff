use Rattle.std.proofs.Common.{refl, sym, ◌∙◌, ap}
use Rattle.ir_trees.specs.Syntax.Trees.{TypeKind}
use Rattle.ir_trees.specs.Syntax.Words.{ty_tree}
use Rattle.ir_trees.specs.Unification.ImplClasses.{sought}
use Rattle.ir_trees.proofs.Syntax.Lists.{below_kind}
use Rattle.ir_context.proofs.Unification.FoundImpls.{both-of-head}
use Rattle.ir_context.proofs.decl.context.Cx.for_each_impl_of_head.Goals as goal

pub head-requires : goal.head-requires
head-requires c = below_kind c.args.self.now.trees c.args.self_ty.0 TypeKind refl c.requires

pub returns-in_ok-listed_with_open-in-Some-clause-list : goal.returns-in_ok-listed_with_open-in-Some-clause-list
returns-in_ok-listed_with_open-in-Some-clause-list c =
    let found = ap sought (sym c.head.ensures) ∙ (sym c.sought.ensures ∙ c.in-Some.is) in
    c.in_ok-listed_with_open-in-Some.ensures ∙ both-of-head c.args.self.now c.args.trait_id.0 (ty_tree c.args.self.now.trees c.args.self_ty) c.in-Some.class found

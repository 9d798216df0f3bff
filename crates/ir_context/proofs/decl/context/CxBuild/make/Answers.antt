use Rattle.std.proofs.Common.{refl, subst, sym}
use Rattle.ir_trees.specs.Declarations.Context.{Context, world}
use Rattle.ir_trees.specs.Syntax.Making.{what}
use Rattle.ir_trees.proofs.Growth.Making.{added-made}
use Rattle.ir_context.proofs.Unification.KeptLists.{listed-grown}
use Rattle.ir_context.proofs.Validity.WellFormed.{grown_context}
use Rattle.ir_context.proofs.decl.context.CxBuild.make.Goals as goal

pub returns-clause-made : goal.returns-clause-made
returns-clause-made c = added-made _ _ _ c.make-made.new.self _ c.self.view_is c.make-made.ensures

pub invariant_of-self : goal.invariant_of-self
invariant_of-self c = (
  grown_context _ _ c.self.invariant.0 c.make-made.ensures.kept
      (c.make-made.ensures.fit _ c.self.invariant.0.nodes
      (subst (λ (v : Context). (what c.args.new).making.takes (world v) v.trees) (sym c.self.view_is) (c.requires.takes refl))),
  listed-grown _ _ _ _ _ _ c.self.invariant.0.there c.make-made.ensures.kept c.self.invariant.1,
)

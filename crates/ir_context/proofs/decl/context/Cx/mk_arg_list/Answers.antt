use Rattle.ir_trees.proofs.Growth.Making.{added-made}
use Rattle.ir_context.proofs.Unification.KeptLists.{listed-grown}
use Rattle.ir_context.proofs.Validity.WellFormed.{grown_context}
use Rattle.ir_context.proofs.decl.context.Cx.mk_arg_list.Goals as goal

pub returns : goal.returns
returns c = added-made _ _ _ c.mk_arg_list.new.self _ c.self.view_is c.mk_arg_list.ensures

pub invariant_of-self : goal.invariant_of-self
invariant_of-self c = (
  grown_context _ _ c.self.invariant.0 c.mk_arg_list.ensures.kept (c.mk_arg_list.ensures.fit _ c.self.invariant.0.nodes tt),
  listed-grown _ _ _ _ _ _ c.self.invariant.0.there c.mk_arg_list.ensures.kept c.self.invariant.1,
)

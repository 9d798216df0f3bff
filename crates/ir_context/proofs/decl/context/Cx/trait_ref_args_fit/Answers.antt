use Rattle.ir_trees.proofs.Kinding.Arity.{reference-tests}
use Rattle.ir_context.proofs.decl.context.Cx.trait_ref_args_fit.Goals as goal

pub returns : goal.returns
returns c = reference-tests c.args.self.now _ _ c.args.trait_ref _ _ c.self.view_is c.as_slice.ensures.value (c.args-2.ensures.fits, c.args-2.ensures.tree) c.takes_after_self.ensures

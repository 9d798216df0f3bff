use Rattle.ir_trees.proofs.Growth.Made.{IsArgs-grows}
use Rattle.examples.proofs.calls.evaluators.instantiated_args.Goals as goal

pub instantiate_binder_with_infer-requires-clause-under : goal.instantiate_binder_with_infer-requires-clause-under
instantiate_binder_with_infer-requires-clause-under g c = IsArgs-grows _ _ c.args.value c.mk_vars.ensures.made.kept c.requires

use Rattle.ir_trees.proofs.Growth.Made.{IsTy-grows}
use Rattle.examples.proofs.calls.evaluators.entered_type.Goals as goal

pub enter_binder-requires-clause-under : goal.enter_binder-requires-clause-under
enter_binder-requires-clause-under g c = IsTy-grows _ _ c.args.value c.mk_vars.ensures.made.kept c.requires

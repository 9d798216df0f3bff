use Rattle.ir_trees.proofs.Growth.Made.{IsTy-grows}
use Rattle.examples.proofs.calls.evaluators.normal_type.Goals as goal

pub structurally_normalize_ty-requires-clause-ty : goal.structurally_normalize_ty-requires-clause-ty
structurally_normalize_ty-requires-clause-ty g c = IsTy-grows _ _ c.args.ty c.mk_param_env.ensures.made.kept c.requires

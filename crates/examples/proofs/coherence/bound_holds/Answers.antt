use Rattle.ir_trees.proofs.Growth.Made.{IsArgs-grows}
use Rattle.examples.proofs.coherence.bound_holds.Goals as goal

pub holds-requires-clause-args : goal.holds-requires-clause-args
holds-requires-clause-args c = IsArgs-grows _ _ c.in_ok-args.args c.mk_param_env.ensures.made.kept c.in_ok-args.ensures.made.sort

use Rattle.ir_trees.proofs.Growth.Kept.{args-kept}
use Rattle.candidate_eval.proofs.structural.callable.const_fn_def.Goals as goal

pub returns-clause-list : goal.returns-clause-list
returns-clause-list g c = (args-kept _ _ c.args.args c.inputs_and_output_of_fn_def.ensures.grows c.requires.args).0

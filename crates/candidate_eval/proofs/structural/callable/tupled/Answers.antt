use Rattle.candidate_eval.proofs.Builtins.Callables.{tupled_fits}
use Rattle.candidate_eval.proofs.structural.callable.tupled.Goals as goal

pub returns-clause-sort : goal.returns-clause-sort
returns-clause-sort g c = tupled_fits _ _ c.args.sig c.in_ok-inputs.inputs c.in_ok-inputs.ensures.made.kept c.requires.fits c.in_ok-inputs.ensures.made.sort

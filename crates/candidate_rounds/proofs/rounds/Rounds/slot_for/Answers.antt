use Rattle.ir_trees.specs.declared.ir.stop.Stop.TheVariants.{Memory}
use Rattle.candidate_eval.specs.Interface.Noting.{IsNotingStop, refused_note}
use Rattle.candidate_rounds.proofs.Stops.ResponseStops.{passed-on}
use Rattle.candidate_rounds.proofs.rounds.Rounds.slot_for.Goals as goal

pub returns-in_err-copied-clause-cause : goal.returns-in_err-copied-clause-cause
returns-in_err-copied-clause-cause c = passed-on (IsNotingStop c.args.self.now.context.trees) c.from_residual.result Memory c.from_residual.ensures.1 refused_note

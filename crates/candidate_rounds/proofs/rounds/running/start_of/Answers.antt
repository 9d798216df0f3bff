use Rattle.candidate_eval.specs.Interface.Noting.{IsNotingStop, refused_note}
use Rattle.candidate_rounds.proofs.Stops.ResponseStops.{passed-growth}
use Rattle.candidate_rounds.proofs.rounds.running.start_of.Goals as goal

pub returns-in_err-inference-clause-cause : goal.returns-in_err-inference-clause-cause
returns-in_err-inference-clause-cause c =
    passed-growth (IsNotingStop _) c.from_residual-in_err-inference.result c.in_err-inference.field-0.0 c.from_residual-in_err-inference.ensures.1 c.in_err-inference.ensures.cause refused_note

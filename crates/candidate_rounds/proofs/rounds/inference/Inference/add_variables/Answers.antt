use Rattle.std.proofs.Common.{false, ◌∙◌, ap}
use Rattle.candidate_rounds.specs.Evaluators.Inferences.{with_variable}
use Rattle.candidate_rounds.proofs.Stops.Rooms.{out-of-room}
use Rattle.candidate_rounds.proofs.Snapshots.Undoing.{one-more-variable}
use Rattle.candidate_rounds.proofs.rounds.inference.Inference.add_variables.Goals as goal

pub loop-i-preserved : goal.loop-i-preserved
loop-i-preserved c = one-more-variable c.args.self.now c.loop-i.self c.add_variable.new.self c.args.kinds.now c.loop-i.i _ c.loop-i.invariant c.loop-i-test.true (c.in_default.ensures.added ∙ ap (λ k. with_variable c.loop-i.self k false) c.variable_kind.ensures)

pub returns-in-Err-clause-cause : goal.returns-in-Err-clause-cause
returns-in-Err-clause-cause c = out-of-room c.args.self.now c.loop-i.self c.args.kinds.now c.loop-i.i c.in-Err.stop c.loop-i.invariant c.loop-i-test.true c.in-Err.ensures.cause

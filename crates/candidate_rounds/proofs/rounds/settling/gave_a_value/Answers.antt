use Rattle.candidate_rounds.proofs.Obligations.Evaluating.{none-after}
use Rattle.candidate_rounds.proofs.rounds.settling.gave_a_value.Goals as goal

pub returns-then-i-after : goal.returns-then-i-after
returns-then-i-after c = none-after c.args.before.now c.args.after.now c.loop-i.i c.loop-i.invariant c.if-i-after.true

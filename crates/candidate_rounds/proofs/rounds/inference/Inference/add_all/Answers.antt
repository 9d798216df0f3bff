use Rattle.candidate_rounds.proofs.Snapshots.Undoing.{one-more-add}
use Rattle.candidate_rounds.proofs.rounds.inference.Inference.add_all.Goals as goal

pub loop-i-preserved : goal.loop-i-preserved
loop-i-preserved c = one-more-add c.args.self.now c.loop-i.self c.add.new.self c.args.source c.args.goals.now c.loop-i.i _ c.loop-i.invariant c.loop-i-test.true c.in_default.ensures.added

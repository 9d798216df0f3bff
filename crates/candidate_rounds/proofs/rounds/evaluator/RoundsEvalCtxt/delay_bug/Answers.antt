use Rattle.std.proofs.Common.{reverse}
use Rattle.candidate_rounds.proofs.Evaluators.Faulting.{fault-grows}
use Rattle.candidate_rounds.proofs.Snapshots.ResolvedValues.{evaluator-grown}
use Rattle.candidate_rounds.proofs.rounds.evaluator.RoundsEvalCtxt.delay_bug.Goals as goal

pub invariant_of-self : goal.invariant_of-self
invariant_of-self c =
    let i = c.self.inside in
    let grows = fault-grows i.cx c.delay_bug.new.self c.args.text.now c.delay_bug.result c.delay_bug.ensures.added c.delay_bug.ensures.unchanged in
    evaluator-grown i.cx c.delay_bug.new.self i.inference (reverse i.probes.items) (record { pairs = i.normal.items; is_open = i.opens }) i.opaques.items i.goals grows c.self.invariant

use Rattle.std.proofs.Common.{ap, reverse, ◌∙◌}
use Rattle.candidate_rounds.specs.Evaluators.Known.{state}
use Rattle.candidate_rounds.proofs.Evaluators.Between.{parts}
use Rattle.candidate_rounds.proofs.Snapshots.Knowing.{state-stays}
use Rattle.candidate_rounds.proofs.Snapshots.ResolvedValues.{evaluator-grown}
use Rattle.candidate_rounds.proofs.rounds.Rounds.start_with_term.Goals as goal

pub invariant_of-self : goal.invariant_of-self
invariant_of-self c =
    let i = c.self.inside in
    evaluator-grown i.cx c.start_with_term.new.cx i.inference (reverse i.probes.items) (record { pairs = i.normal.items; is_open = i.opens }) i.opaques.items i.goals c.start_with_term.ensures.grows c.self.invariant

pub returns-clause-state : goal.returns-clause-state
returns-clause-state c =
    let i = c.self.inside in
    state-stays i.cx.trees c.start_with_term.new.cx.trees i.mode i.inference c.start_with_term.ensures.grows.kept (parts c.self.invariant).consistent.known ∙ ap state c.self.view_is

use Rattle.std.proofs.Common.{ap, reverse, subst, ◌∙◌}
use Rattle.candidate_rounds.specs.Evaluators.Known.{Evaluator, GoesOn, probes, state}
use Rattle.candidate_rounds.proofs.Snapshots.Knowing.{probes-grow, state-stays}
use Rattle.candidate_rounds.proofs.Snapshots.ResolvedValues.{evaluator-grown}
use Rattle.candidate_rounds.proofs.Evaluators.Between.{parts}
use Rattle.candidate_rounds.proofs.Evaluators.Going.{goes-context}
use Rattle.candidate_rounds.proofs.rounds.Rounds.make_leaves.Goals as goal

pub invariant_of-self : goal.invariant_of-self
invariant_of-self c =
    let i = c.self.inside in
    evaluator-grown i.cx c.leaf_args.new.cx i.inference (reverse i.probes.items) (record { pairs = i.normal.items; is_open = i.opens }) i.opaques.items i.goals c.leaf_args.ensures.grows c.self.invariant

pub returns-clause-probes : goal.returns-clause-probes
returns-clause-probes c =
    let i = c.self.inside in
    probes-grow i.cx.trees c.leaf_args.new.cx.trees i.mode i.inference (reverse i.probes.items) c.leaf_args.ensures.grows.kept (parts c.self.invariant).consistent.known ∙ ap probes c.self.view_is

pub returns-clause-state : goal.returns-clause-state
returns-clause-state c =
    let i = c.self.inside in
    state-stays i.cx.trees c.leaf_args.new.cx.trees i.mode i.inference c.leaf_args.ensures.grows.kept (parts c.self.invariant).consistent.known ∙ ap state c.self.view_is

pub returns-clause-goes : goal.returns-clause-goes
returns-clause-goes c =
    let i = c.self.inside in
    let v : Evaluator = record { context = i.cx; mode = i.mode; normal = record { pairs = i.normal.items; is_open = i.opens }; opaques = i.opaques.items; goals = i.goals; inference = i.inference; marks = reverse i.probes.items } in
    subst (λ (e : Evaluator). GoesOn e (record v { context = c.leaf_args.new.cx })) c.self.view_is (goes-context v c.leaf_args.new.cx c.leaf_args.ensures.grows c.leaf_args.ensures.faults)

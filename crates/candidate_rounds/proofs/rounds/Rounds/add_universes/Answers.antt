use Rattle.std.proofs.Common.{◌+◌, reverse, ap, arith, subst}
use Rattle.candidate_rounds.specs.Calls.Giving.{with_more_universes}
use Rattle.candidate_rounds.specs.Evaluators.Inferences.{with_newest}
use Rattle.candidate_rounds.specs.Evaluators.Known.{Evaluator, GoesOn, state}
use Rattle.candidate_rounds.proofs.Snapshots.Holding.{holds-newest, change-state}
use Rattle.candidate_rounds.proofs.Evaluators.Going.{further-newest, further-call, goes-further}
use Rattle.candidate_rounds.proofs.Snapshots.ResolvedValues.{evaluator-changed, resolved-newest}
use Rattle.candidate_rounds.proofs.Evaluators.Between.{parts}
use Rattle.candidate_rounds.proofs.rounds.Rounds.add_universes.Goals as goal

pub invariant_of-self : goal.invariant_of-self
invariant_of-self c =
    let i = c.self.inside in
    let ks = reverse i.probes.items in
    let u = i.inference.newest_universe + c.args.count in
    evaluator-changed i.cx i.inference c.add_universes.new.self (with_newest i.inference u) ks (record { pairs = i.normal.items; is_open = i.opens }) i.opaques.items i.goals c.add_universes.result c.self.invariant (further-newest i.inference u)
    (holds-newest i.cx.trees i.inference ks u (omega arith) (parts c.self.invariant).consistent) (resolved-newest i.cx.trees i.inference u (parts c.self.invariant).resolved.now) c.add_universes.ensures.added c.add_universes.ensures.unchanged

pub returns-clause-made : goal.returns-clause-made
returns-clause-made c =
    let i = c.self.inside in
    let u = i.inference.newest_universe + c.args.count in
    change-state i.cx.trees i.mode c.add_universes.new.self (with_newest i.inference u) _ c.add_universes.result (ap (λ (e : Evaluator). with_more_universes (state e) c.args.count) c.self.view_is) c.add_universes.ensures.added

pub returns-clause-goes : goal.returns-clause-goes
returns-clause-goes c =
    let i = c.self.inside in
    let u = i.inference.newest_universe + c.args.count in
    let v : Evaluator = record { context = i.cx; mode = i.mode; normal = record { pairs = i.normal.items; is_open = i.opens }; opaques = i.opaques.items; goals = i.goals; inference = i.inference; marks = reverse i.probes.items } in
    subst (λ (e : Evaluator). GoesOn e (record v { inference = c.add_universes.new.self })) c.self.view_is
    (goes-further v c.add_universes.new.self (further-call i.inference c.add_universes.new.self (with_newest i.inference u) c.add_universes.result (further-newest i.inference u) c.add_universes.ensures.added c.add_universes.ensures.unchanged))

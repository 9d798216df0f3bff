use Rattle.std.proofs.Common.{suc, reverse, ap, arith, subst, ◌∙◌}
use Rattle.candidate_eval.specs.Judges.States.{with_universe}
use Rattle.candidate_rounds.specs.Evaluators.Inferences.{with_newest}
use Rattle.candidate_rounds.specs.Evaluators.Known.{Evaluator, GoesOn, state, probes}
use Rattle.candidate_rounds.proofs.Snapshots.Undoing.{undo-newest}
use Rattle.candidate_rounds.proofs.Snapshots.Knowing.{probes-stay}
use Rattle.candidate_rounds.proofs.Snapshots.Holding.{holds-newest, change-undone, change-state}
use Rattle.candidate_rounds.proofs.Evaluators.Going.{further-newest, further-call, goes-further}
use Rattle.candidate_rounds.proofs.Snapshots.ResolvedValues.{evaluator-changed, resolved-newest}
use Rattle.candidate_rounds.proofs.Evaluators.Between.{parts}
use Rattle.candidate_rounds.proofs.rounds.Rounds.enter.Goals as goal

pub invariant_of-self : goal.invariant_of-self
invariant_of-self c =
    let i = c.self.inside in
    let ks = reverse i.probes.items in
    let u = suc i.inference.newest_universe in
    evaluator-changed i.cx i.inference c.enter.new.self (with_newest i.inference u) ks (record { pairs = i.normal.items; is_open = i.opens }) i.opaques.items i.goals c.enter.result c.self.invariant (further-newest i.inference u)
    (holds-newest i.cx.trees i.inference ks u (omega arith) (parts c.self.invariant).consistent) (resolved-newest i.cx.trees i.inference u (parts c.self.invariant).resolved.now) c.enter.ensures.entered c.enter.ensures.unchanged

pub returns-clause-probes : goal.returns-clause-probes
returns-clause-probes c =
    let i = c.self.inside in
    let u = suc i.inference.newest_universe in
    probes-stay i.cx.trees i.mode i.inference c.enter.new.self (reverse i.probes.items) (parts c.self.invariant).consistent.marks
    (change-undone i.inference c.enter.new.self (with_newest i.inference u) c.enter.result (undo-newest i.inference u) c.enter.ensures.entered c.enter.ensures.unchanged)
    ∙ ap probes c.self.view_is

pub returns-clause-made : goal.returns-clause-made
returns-clause-made c =
    let i = c.self.inside in
    let u = suc i.inference.newest_universe in
    change-state i.cx.trees i.mode c.enter.new.self (with_newest i.inference u) _ c.enter.result (ap (λ (e : Evaluator). with_universe (state e)) c.self.view_is) c.enter.ensures.entered

pub returns-clause-goes : goal.returns-clause-goes
returns-clause-goes c =
    let i = c.self.inside in
    let u = suc i.inference.newest_universe in
    let v : Evaluator = record { context = i.cx; mode = i.mode; normal = record { pairs = i.normal.items; is_open = i.opens }; opaques = i.opaques.items; goals = i.goals; inference = i.inference; marks = reverse i.probes.items } in
    subst (λ (e : Evaluator). GoesOn e (record v { inference = c.enter.new.self })) c.self.view_is
    (goes-further v c.enter.new.self (further-call i.inference c.enter.new.self (with_newest i.inference u) c.enter.result (further-newest i.inference u) c.enter.ensures.entered c.enter.ensures.unchanged))

use Rattle.std.proofs.Common.{reverse, ◌∙◌, ap, subst}
use Rattle.candidate_rounds.specs.Calls.Giving.{with_open_variable}
use Rattle.candidate_rounds.specs.Evaluators.Known.{Evaluator, GoesOn, state}
use Rattle.candidate_rounds.proofs.Evaluators.Between.{parts}
use Rattle.candidate_rounds.proofs.Evaluators.Going.{further-call, goes-further}
use Rattle.candidate_rounds.proofs.Snapshots.Holding.{change-state}
use Rattle.candidate_rounds.proofs.Table.Opening.{further-open, holds-open, resolved-open, state-open}
use Rattle.candidate_rounds.proofs.Snapshots.ResolvedValues.{evaluator-changed}
use Rattle.rounds_judge.specs.Table.TableSettling.{with_open}
use Rattle.candidate_rounds.proofs.rounds.Rounds.open_variable.Goals as goal

pub invariant_of-self : goal.invariant_of-self
invariant_of-self c =
    let i = c.self.inside in
    let ks = reverse i.probes.items in
    let k = c.args.left_open.kind in
    let u = c.args.left_open.universe in
    evaluator-changed i.cx i.inference c.open_variable.new.self (with_open_variable i.inference k u) ks (record { pairs = i.normal.items; is_open = i.opens }) i.opaques.items i.goals c.open_variable.result c.self.invariant (further-open i.inference k u)
    (holds-open i.cx.trees i.inference ks k u (parts c.self.invariant).consistent) (resolved-open i.cx.trees i.inference k u (parts c.self.invariant).resolved.now) c.open_variable.ensures.added c.open_variable.ensures.unchanged

pub returns-clause-made : goal.returns-clause-made
returns-clause-made c =
    let i = c.self.inside in
    change-state i.cx.trees i.mode c.open_variable.new.self (with_open_variable i.inference c.args.left_open.kind c.args.left_open.universe) _ c.open_variable.result
    (state-open i.cx.trees i.mode i.inference c.args.left_open ∙ ap (λ (e : Evaluator). with_open (state e) c.args.left_open) c.self.view_is) c.open_variable.ensures.added

pub returns-clause-goes : goal.returns-clause-goes
returns-clause-goes c =
    let i = c.self.inside in
    let v : Evaluator = record { context = i.cx; mode = i.mode; normal = record { pairs = i.normal.items; is_open = i.opens }; opaques = i.opaques.items; goals = i.goals; inference = i.inference; marks = reverse i.probes.items } in
    subst (λ (e : Evaluator). GoesOn e (record v { inference = c.open_variable.new.self })) c.self.view_is
    (goes-further v c.open_variable.new.self
    (further-call i.inference c.open_variable.new.self (with_open_variable i.inference c.args.left_open.kind c.args.left_open.universe) c.open_variable.result (further-open i.inference c.args.left_open.kind c.args.left_open.universe)
    c.open_variable.ensures.added c.open_variable.ensures.unchanged))

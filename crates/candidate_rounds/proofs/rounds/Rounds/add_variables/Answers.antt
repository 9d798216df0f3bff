use Rattle.std.proofs.Common.{reverse, ◌∙◌, ap, subst}
use Rattle.candidate_eval.specs.Judges.States.{with_fresh_variables}
use Rattle.candidate_eval.specs.Interface.Evaluators.{kinds_listed}
use Rattle.candidate_rounds.specs.Evaluators.Inferences.{with_variables}
use Rattle.candidate_rounds.specs.Evaluators.Known.{Evaluator, GoesOn, state, probes}
use Rattle.candidate_rounds.proofs.Snapshots.Knowing.{probes-stay}
use Rattle.candidate_rounds.proofs.Snapshots.Holding.{holds-variables, undo-variables, state-variables, change-undone, change-state}
use Rattle.candidate_rounds.proofs.Snapshots.ResolvedValues.{evaluator-changed, resolved-variables}
use Rattle.candidate_rounds.proofs.Evaluators.Going.{further-call, further-variables, goes-further}
use Rattle.candidate_rounds.proofs.Evaluators.Between.{parts}
use Rattle.candidate_rounds.proofs.rounds.Rounds.add_variables.Goals as goal

pub invariant_of-self : goal.invariant_of-self
invariant_of-self c =
    let i = c.self.inside in
    let ks = reverse i.probes.items in
    let vs = c.args.kinds.now in
    evaluator-changed i.cx i.inference c.add_variables.new.self (with_variables i.inference vs) ks (record { pairs = i.normal.items; is_open = i.opens }) i.opaques.items i.goals c.add_variables.result c.self.invariant (further-variables i.inference vs)
    (holds-variables i.cx.trees i.inference ks vs (parts c.self.invariant).consistent) (resolved-variables i.cx.trees i.inference vs (parts c.self.invariant).resolved.now)
    c.add_variables.ensures.added c.add_variables.ensures.unchanged

pub returns-clause-probes : goal.returns-clause-probes
returns-clause-probes c =
    let i = c.self.inside in
    probes-stay i.cx.trees i.mode i.inference c.add_variables.new.self (reverse i.probes.items) (parts c.self.invariant).consistent.marks
    (change-undone i.inference c.add_variables.new.self (with_variables i.inference c.args.kinds.now) c.add_variables.result (undo-variables i.inference c.args.kinds.now) c.add_variables.ensures.added c.add_variables.ensures.unchanged)
    ∙ ap probes c.self.view_is

pub returns-clause-made : goal.returns-clause-made
returns-clause-made c =
    let i = c.self.inside in
    change-state i.cx.trees i.mode c.add_variables.new.self (with_variables i.inference c.args.kinds.now) _ c.add_variables.result (state-variables i.cx.trees i.mode i.inference c.args.kinds.now ∙ ap (λ (e : Evaluator). with_fresh_variables (state e) (kinds_listed c.args.kinds.now)) c.self.view_is) c.add_variables.ensures.added

pub returns-clause-goes : goal.returns-clause-goes
returns-clause-goes c =
    let i = c.self.inside in
    let v : Evaluator = record { context = i.cx; mode = i.mode; normal = record { pairs = i.normal.items; is_open = i.opens }; opaques = i.opaques.items; goals = i.goals; inference = i.inference; marks = reverse i.probes.items } in
    subst (λ (e : Evaluator). GoesOn e (record v { inference = c.add_variables.new.self })) c.self.view_is
    (goes-further v c.add_variables.new.self
    (further-call i.inference c.add_variables.new.self (with_variables i.inference c.args.kinds.now) c.add_variables.result (further-variables i.inference c.args.kinds.now) c.add_variables.ensures.added c.add_variables.ensures.unchanged))

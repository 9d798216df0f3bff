use Rattle.std.proofs.Common.{◌≡◌, OnOk, reverse, sym, subst}
use Rattle.candidate_eval.specs.Interface.Evaluators.{IsGoal, pending_of}
use Rattle.candidate_eval.specs.Judges.States.{added}
use Rattle.candidate_rounds.specs.Evaluators.Inferences.{add}
use Rattle.candidate_rounds.specs.Evaluators.Known.{Evaluator, GoesOn, state, state_of}
use Rattle.candidate_rounds.proofs.Evaluators.Going.{further-call, further-goal, goes-further}
use Rattle.candidate_rounds.proofs.Snapshots.Holding.{goal-state, holds-goal}
use Rattle.candidate_rounds.proofs.Snapshots.ResolvedValues.{evaluator-changed, resolved-goal}
use Rattle.candidate_rounds.proofs.Evaluators.Between.{parts}
use Rattle.candidate_rounds.proofs.rounds.Rounds.push_pending.Goals as goal

pub invariant_of-self : goal.invariant_of-self
invariant_of-self c =
    let i = c.self.inside in
    let ks = reverse i.probes.items in
    let g = subst (λ (e : Evaluator). IsGoal e.context.trees c.args.goal) (sym c.self.view_is) c.requires in
    evaluator-changed i.cx i.inference c.add.new.self (add i.inference c.args.source c.args.goal) ks (record { pairs = i.normal.items; is_open = i.opens }) i.opaques.items i.goals c.add.result c.self.invariant (further-goal i.inference c.args.source c.args.goal)
    (holds-goal i.cx.trees i.inference ks c.args.source c.args.goal (parts c.self.invariant).consistent g) (resolved-goal i.cx.trees i.inference c.args.source c.args.goal (parts c.self.invariant).resolved.now)
    c.add.ensures.added c.add.ensures.unchanged

pub returns-clause-goes : goal.returns-clause-goes
returns-clause-goes c =
    let i = c.self.inside in
    let v : Evaluator = record { context = i.cx; mode = i.mode; normal = record { pairs = i.normal.items; is_open = i.opens }; opaques = i.opaques.items; goals = i.goals; inference = i.inference; marks = reverse i.probes.items } in
    subst (λ (e : Evaluator). GoesOn e (record v { inference = c.add.new.self })) c.self.view_is
    (goes-further v c.add.new.self (further-call i.inference c.add.new.self (add i.inference c.args.source c.args.goal) c.add.result (further-goal i.inference c.args.source c.args.goal) c.add.ensures.added c.add.ensures.unchanged))

pub returns-clause-made : goal.returns-clause-made
returns-clause-made c =
    let i = c.self.inside in
    let s = goal-state i.cx.trees i.mode i.inference c.add.new.self (reverse i.probes.items) c.args.source c.args.goal c.add.result (parts c.self.invariant).consistent c.add.ensures.added in
    subst (λ (e : Evaluator). OnOk c.add.result (state_of i.cx.trees i.mode c.add.new.self ≡ added (state e) (pending_of e.context.trees c.args.source c.args.goal))) c.self.view_is s

use Rattle.std.proofs.Common.{◌≡◌, OnOk, reverse, sym, subst}
use Rattle.candidate_eval.specs.Interface.Evaluators.{IsGoal, pending_of}
use Rattle.candidate_eval.specs.Judges.States.{added}
use Rattle.candidate_rounds.specs.Evaluators.Known.{Evaluator, state, state_of, probes}
use Rattle.candidate_rounds.proofs.Snapshots.Knowing.{probes-stay}
use Rattle.candidate_rounds.proofs.Snapshots.Holding.{goal-undone, goal-state}
use Rattle.candidate_rounds.proofs.Snapshots.ResolvedValues.{evaluator-changed, resolved-goal}
use Rattle.candidate_rounds.proofs.Evaluators.Going.{further-goal}
use Rattle.candidate_rounds.proofs.Snapshots.Holding.{holds-goal}
use Rattle.candidate_rounds.specs.Evaluators.Inferences.{add}
use Rattle.candidate_rounds.proofs.Evaluators.Between.{parts}
use Rattle.std.proofs.Common.{refl}
use Rattle.candidate_rounds.proofs.Evaluators.Interface.{keeps-same}
use Rattle.candidate_eval.specs.Interface.Evaluators.{Keeps}
use Rattle.candidate_rounds.specs.Evaluators.Interface.{fixed}
use Rattle.candidate_rounds.proofs.rounds.evaluator.RoundsEvalCtxt.add_goal.Goals as goal

pub invariant_of-self : goal.invariant_of-self
invariant_of-self c =
    let i = c.self.inside in
    let ks = reverse i.probes.items in
    let g = subst (λ (e : Evaluator). IsGoal e.context.trees c.args.goal) (sym c.self.view_is) c.requires in
    evaluator-changed i.cx i.inference c.add.new.self (add i.inference c.args.source c.args.goal) ks (record { pairs = i.normal.items; is_open = i.opens }) i.opaques.items i.goals c.add.result c.self.invariant (further-goal i.inference c.args.source c.args.goal)
    (holds-goal i.cx.trees i.inference ks c.args.source c.args.goal (parts c.self.invariant).consistent g) (resolved-goal i.cx.trees i.inference c.args.source c.args.goal (parts c.self.invariant).resolved.now)
    c.add.ensures.added c.add.ensures.unchanged

pub returns-clause-ok : goal.returns-clause-ok
returns-clause-ok c =
    let i = c.self.inside in
    let s = goal-state i.cx.trees i.mode i.inference c.add.new.self (reverse i.probes.items) c.args.source c.args.goal c.add.result (parts c.self.invariant).consistent c.add.ensures.added in
    subst (λ (e : Evaluator). OnOk c.add.result (state_of i.cx.trees i.mode c.add.new.self ≡ added (state e) (pending_of e.context.trees c.args.source c.args.goal))) c.self.view_is s

pub returns-clause-kept : goal.returns-clause-kept
returns-clause-kept c =
    let i = c.self.inside in
    let v : Evaluator = record { context = i.cx; mode = i.mode; normal = record { pairs = i.normal.items; is_open = i.opens }; opaques = i.opaques.items; goals = i.goals; inference = i.inference; marks = reverse i.probes.items } in
    subst (λ (e : Evaluator). Keeps fixed probes (λ r. r.context) e (record v { inference = c.add.new.self })) c.self.view_is
    (keeps-same v (record v { inference = c.add.new.self }) refl (refl, refl, refl, refl)
    (probes-stay i.cx.trees i.mode i.inference c.add.new.self (reverse i.probes.items) (parts c.self.invariant).consistent.marks (goal-undone i.inference c.add.new.self c.args.source c.args.goal c.add.result c.add.ensures.added c.add.ensures.unchanged)))

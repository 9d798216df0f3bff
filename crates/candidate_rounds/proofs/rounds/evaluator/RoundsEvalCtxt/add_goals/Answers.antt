use Rattle.std.proofs.Common.{◌≡◌, All, OnOk, reverse, sym, subst}
use Rattle.candidate_eval.specs.Interface.Evaluators.{IsGoal, with_goals_of}
use Rattle.candidate_rounds.specs.Evaluators.Known.{Evaluator, state, state_of, probes}
use Rattle.candidate_rounds.proofs.Snapshots.Knowing.{probes-stay, each-of-all}
use Rattle.candidate_rounds.proofs.Snapshots.Holding.{goals-undone, goals-state}
use Rattle.candidate_rounds.proofs.Snapshots.ResolvedValues.{evaluator-changed, resolved-goals}
use Rattle.candidate_rounds.proofs.Evaluators.Going.{further-goals}
use Rattle.candidate_rounds.proofs.Snapshots.Holding.{holds-goals}
use Rattle.candidate_rounds.specs.Evaluators.Inferences.{add_all}
use Rattle.candidate_rounds.proofs.Evaluators.Between.{parts}
use Rattle.std.proofs.Common.{refl}
use Rattle.candidate_rounds.proofs.Evaluators.Interface.{keeps-same}
use Rattle.candidate_eval.specs.Interface.Evaluators.{Keeps}
use Rattle.candidate_rounds.specs.Evaluators.Interface.{fixed}
use Rattle.candidate_rounds.proofs.rounds.evaluator.RoundsEvalCtxt.add_goals.Goals as goal

pub invariant_of-self : goal.invariant_of-self
invariant_of-self c =
    let i = c.self.inside in
    let ks = reverse i.probes.items in
    let gs = c.args.goals.now in
    let g = each-of-all (IsGoal i.cx.trees) gs (subst (λ (e : Evaluator). All (IsGoal e.context.trees) gs) (sym c.self.view_is) c.requires) in
    evaluator-changed i.cx i.inference c.add_all.new.self (add_all i.inference c.args.source gs) ks (record { pairs = i.normal.items; is_open = i.opens }) i.opaques.items i.goals c.add_all.result c.self.invariant (further-goals i.inference c.args.source gs)
    (holds-goals i.cx.trees i.inference ks c.args.source gs (parts c.self.invariant).consistent g) (resolved-goals i.cx.trees i.inference c.args.source gs (parts c.self.invariant).resolved.now)
    c.add_all.ensures.added c.add_all.ensures.unchanged

pub returns-clause-ok : goal.returns-clause-ok
returns-clause-ok c =
    let i = c.self.inside in
    let g = each-of-all (IsGoal i.cx.trees) c.args.goals.now (subst (λ (e : Evaluator). All (IsGoal e.context.trees) c.args.goals.now) (sym c.self.view_is) c.requires) in
    let s = goals-state i.cx.trees i.mode i.inference c.add_all.new.self (reverse i.probes.items) c.args.source c.args.goals.now c.add_all.result (parts c.self.invariant).consistent g c.add_all.ensures.added in
    subst (λ (e : Evaluator). OnOk c.add_all.result (state_of i.cx.trees i.mode c.add_all.new.self ≡ with_goals_of e.context.trees (state e) c.args.source c.args.goals.now)) c.self.view_is s

pub returns-clause-kept : goal.returns-clause-kept
returns-clause-kept c =
    let i = c.self.inside in
    let v : Evaluator = record { context = i.cx; mode = i.mode; normal = record { pairs = i.normal.items; is_open = i.opens }; opaques = i.opaques.items; goals = i.goals; inference = i.inference; marks = reverse i.probes.items } in
    subst (λ (e : Evaluator). Keeps fixed probes (λ r. r.context) e (record v { inference = c.add_all.new.self })) c.self.view_is
    (keeps-same v (record v { inference = c.add_all.new.self }) refl (refl, refl, refl, refl)
    (probes-stay i.cx.trees i.mode i.inference c.add_all.new.self (reverse i.probes.items) (parts c.self.invariant).consistent.marks (goals-undone i.inference c.add_all.new.self c.args.source c.args.goals.now c.add_all.result c.add_all.ensures.added c.add_all.ensures.unchanged)))

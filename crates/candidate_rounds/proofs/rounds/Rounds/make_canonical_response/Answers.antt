use Rattle.std.proofs.Common.{◌≡◌, reverse, IfOk, ◌∙◌, ap, subst}
use Rattle.std.specs.Prelude.{IfErr}
use Rattle.candidate_eval.specs.Outcomes.ResponseTrees.{response_of}
use Rattle.candidate_rounds.specs.Evaluators.Known.{Evaluator, GoesOn, probes, state}
use Rattle.ir_trees.proofs.Growth.Kept.{grows-refl}
use Rattle.candidate_rounds.specs.Evaluators.Stopping.{IsResponseStop, response_memory}
use Rattle.candidate_rounds.proofs.Stops.ResponseStops.{passed-growth}
use Rattle.rounds_judge.specs.Obligations.Responding.{response}
use Rattle.candidate_rounds.proofs.Snapshots.Knowing.{probes-grow, state-stays}
use Rattle.candidate_rounds.proofs.Snapshots.Holding.{kinds-now}
use Rattle.candidate_rounds.proofs.Snapshots.ResolvedValues.{evaluator-grown}
use Rattle.candidate_rounds.proofs.Evaluators.Between.{parts}
use Rattle.candidate_rounds.proofs.Evaluators.Going.{goes-context, goes-refl}
use Rattle.candidate_rounds.proofs.rounds.Rounds.make_canonical_response.Goals as goal

pub response-requires-clause-kinds : goal.response-requires-clause-kinds
response-requires-clause-kinds c = kinds-now c.self.inside.cx.trees c.self.inside.inference (reverse c.self.inside.probes.items) (parts c.self.invariant).consistent

pub invariant_of-self : goal.invariant_of-self
invariant_of-self c =
    let i = c.self.inside in
    evaluator-grown i.cx c.response.new.cx i.inference (reverse i.probes.items) (record { pairs = i.normal.items; is_open = i.opens }) i.opaques.items i.goals c.response.ensures.grows c.self.invariant

pub returns-clause-probes : goal.returns-clause-probes
returns-clause-probes c =
    let i = c.self.inside in
    probes-grow i.cx.trees c.response.new.cx.trees i.mode i.inference (reverse i.probes.items) c.response.ensures.grows.kept (parts c.self.invariant).consistent.known ∙ ap probes c.self.view_is

pub returns-clause-state : goal.returns-clause-state
returns-clause-state c =
    let i = c.self.inside in
    state-stays i.cx.trees c.response.new.cx.trees i.mode i.inference c.response.ensures.grows.kept (parts c.self.invariant).consistent.known ∙ ap state c.self.view_is

pub returns-clause-is : goal.returns-clause-is
returns-clause-is c =
    subst (λ (e : Evaluator). IfOk c.response.result (λ r. response_of c.response.new.cx.trees r ≡ response (state e) c.args.certainty)) c.self.view_is (c.response.ensures.is c.self.inside.mode)

pub returns-clause-cause : goal.returns-clause-cause
returns-clause-cause c =
    subst (λ (e : Evaluator). IfErr c.response.result (λ s. IsResponseStop c.response.new.cx.trees (state e) s)) c.self.view_is (c.response.ensures.cause c.self.inside.mode)

pub response-requires-clause-known : goal.response-requires-clause-known
response-requires-clause-known c = (parts c.self.invariant).consistent.known

pub returns-clause-goes : goal.returns-clause-goes
returns-clause-goes c =
    let i = c.self.inside in
    let v : Evaluator = record { context = i.cx; mode = i.mode; normal = record { pairs = i.normal.items; is_open = i.opens }; opaques = i.opaques.items; goals = i.goals; inference = i.inference; marks = reverse i.probes.items } in
    subst (λ (e : Evaluator). GoesOn e (record v { context = c.response.new.cx })) c.self.view_is (goes-context v c.response.new.cx c.response.ensures.grows c.response.ensures.faults)

pub returns-in_err-leaks-clause-goes : goal.returns-in_err-leaks-clause-goes
returns-in_err-leaks-clause-goes c = goes-refl c.args.self.now

pub returns-in_err-leaks-clause-grows : goal.returns-in_err-leaks-clause-grows
returns-in_err-leaks-clause-grows c = grows-refl c.args.self.now.context

pub returns-in_err-leaks-clause-cause : goal.returns-in_err-leaks-clause-cause
returns-in_err-leaks-clause-cause c =
    passed-growth (IsResponseStop c.args.self.now.context.trees (state c.args.self.now)) c.from_residual.result c.in_err-leaks.field-0.0 c.from_residual.ensures.1 c.in_err-leaks.ensures response_memory

use Rattle.std.proofs.Common.{IfErr, IfOk, ap, reverse, subst, sym, ◌∙◌, ◌≡◌}
use Rattle.ir_trees.specs.Instantiation.Folds.{arg_tree}
use Rattle.rounds_judge.specs.Equations.Equating.{value_for}
use Rattle.candidate_rounds.specs.Evaluators.Known.{AreTypes, Each, Evaluator, GoesOn, listing, listing_of, state, state_of}
use Rattle.candidate_rounds.proofs.Stops.Stopping.{value-stops}
use Rattle.candidate_rounds.proofs.Snapshots.Knowing.{state-stays}
use Rattle.candidate_rounds.proofs.Snapshots.Holding.{kinds-now}
use Rattle.candidate_rounds.proofs.Snapshots.ResolvedValues.{evaluator-grown}
use Rattle.candidate_rounds.specs.Evaluators.Stopping.{IsValueStop}
use Rattle.candidate_rounds.proofs.Evaluators.Between.{parts}
use Rattle.candidate_rounds.proofs.Evaluators.Going.{goes-context}
use Rattle.candidate_rounds.proofs.rounds.Rounds.value_for.Goals as goal

pub value_in-requires-clause-kinds : goal.value_in-requires-clause-kinds
value_in-requires-clause-kinds c = kinds-now c.self.inside.cx.trees c.self.inside.inference (reverse c.self.inside.probes.items) (parts c.self.invariant).consistent

pub invariant_of-self : goal.invariant_of-self
invariant_of-self c =
    let i = c.self.inside in
    evaluator-grown i.cx c.value_in.new.cx i.inference (reverse i.probes.items) (record { pairs = i.normal.items; is_open = i.opens }) i.opaques.items i.goals c.value_in.ensures.grows c.self.invariant

pub returns-clause-state : goal.returns-clause-state
returns-clause-state c =
    let i = c.self.inside in
    state-stays i.cx.trees c.value_in.new.cx.trees i.mode i.inference c.value_in.ensures.grows.kept (parts c.self.invariant).consistent.known ∙ ap state c.self.view_is

pub returns-clause-tree : goal.returns-clause-tree
returns-clause-tree c =
    subst (λ (e : Evaluator). IfOk c.value_in.result (λ x. arg_tree c.value_in.new.cx.trees x ≡ value_for (listing e) (state e) (reverse c.args.universes.now) (arg_tree e.context.trees c.args.arg))) c.self.view_is
    (subst (λ ps. IfOk c.value_in.result (λ x. arg_tree c.value_in.new.cx.trees x ≡ value_for (listing_of c.self.inside.cx.trees ps) (state_of c.self.inside.cx.trees c.self.inside.mode c.self.inside.inference) (reverse c.args.universes.now) (arg_tree c.self.inside.cx.trees c.args.arg)))
    c.as_slice.ensures.value (c.value_in.ensures.tree c.self.inside.mode))

pub returns-clause-cause : goal.returns-clause-cause
returns-clause-cause c =
    let i = c.self.inside in
    subst (λ (e : Evaluator). IfErr c.value_in.result (λ s. IsValueStop c.value_in.new.cx.trees (listing e) (state e) (reverse c.args.universes.now) (arg_tree e.context.trees c.args.arg) s)) c.self.view_is
    (value-stops c.value_in.result c.value_in.new.cx.trees i.cx.trees i.normal.items i.opens (state_of i.cx.trees i.mode i.inference) (reverse c.args.universes.now) (arg_tree i.cx.trees c.args.arg)
    (subst (λ ps. IfErr c.value_in.result (λ s. IsValueStop c.value_in.new.cx.trees (listing_of i.cx.trees ps) (state_of i.cx.trees i.mode i.inference) (reverse c.args.universes.now) (arg_tree i.cx.trees c.args.arg) s))
    c.as_slice.ensures.value (c.value_in.ensures.cause i.mode)))

pub value_in-requires-clause-known : goal.value_in-requires-clause-known
value_in-requires-clause-known c = (parts c.self.invariant).consistent.known

pub value_in-requires-clause-types : goal.value_in-requires-clause-types
value_in-requires-clause-types c = subst (Each (AreTypes c.self.inside.cx.trees)) (sym c.as_slice.ensures.value) (parts c.self.invariant).given.types

pub returns-clause-goes : goal.returns-clause-goes
returns-clause-goes c =
    let i = c.self.inside in
    let v : Evaluator = record { context = i.cx; mode = i.mode; normal = record { pairs = i.normal.items; is_open = i.opens }; opaques = i.opaques.items; goals = i.goals; inference = i.inference; marks = reverse i.probes.items } in
    subst (λ (e : Evaluator). GoesOn e (record v { context = c.value_in.new.cx })) c.self.view_is (goes-context v c.value_in.new.cx c.value_in.ensures.grows c.value_in.ensures.faults)

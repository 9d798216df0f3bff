use Rattle.std.proofs.Common.{IfErr, IfOk, ap, reverse, subst, sym, ◌∙◌, ◌≡◌}
use Rattle.ir_trees.specs.Instantiation.Folds.{arg_tree}
use Rattle.candidate_eval.specs.Interface.Evaluators.{resolved_root}
use Rattle.candidate_eval.specs.Judges.States.{resolved_tree}
use Rattle.rounds_judge.specs.Aliases.Listed.{current, listed_at}
use Rattle.candidate_rounds.specs.Evaluators.Known.{AreTypes, Each, Evaluator, listing, listing_of, state, state_of}
use Rattle.candidate_rounds.specs.Evaluators.Stopping.{IsTreeStop}
use Rattle.candidate_rounds.proofs.Evaluators.Between.{parts}
use Rattle.candidate_rounds.proofs.Obligations.Gathering.{if-ok-then}
use Rattle.candidate_rounds.proofs.Snapshots.Holding.{kinds-now}
use Rattle.candidate_rounds.proofs.Evaluators.Interface.{made-goes, made-same}
use Rattle.candidate_rounds.proofs.Snapshots.ResolvedValues.{evaluator-grown}
use Rattle.candidate_rounds.proofs.rounds.Rounds.current.Goals as goal

pub resolved_root-root-requires-clause-known : goal.resolved_root-root-requires-clause-known
resolved_root-root-requires-clause-known c = (parts c.self.invariant).consistent.known

pub resolved_root-root-requires-clause-kinds : goal.resolved_root-root-requires-clause-kinds
resolved_root-root-requires-clause-kinds c = kinds-now c.self.inside.cx.trees c.self.inside.inference (reverse c.self.inside.probes.items) (parts c.self.invariant).consistent

pub listed_root-requires-clause-known : goal.listed_root-requires-clause-known
listed_root-requires-clause-known c = (parts c.self.invariant).consistent.known

pub listed_root-requires-clause-kinds : goal.listed_root-requires-clause-kinds
listed_root-requires-clause-kinds c = kinds-now c.self.inside.cx.trees c.self.inside.inference (reverse c.self.inside.probes.items) (parts c.self.invariant).consistent

pub listed_root-requires-clause-types : goal.listed_root-requires-clause-types
listed_root-requires-clause-types c = subst (Each (AreTypes c.self.inside.cx.trees)) (sym c.as_slice.ensures.value) (parts c.self.invariant).given.types

pub invariant_of-self : goal.invariant_of-self
invariant_of-self c = evaluator-grown _ _ _ _ _ _ _ c.listed_root.ensures.grows c.self.invariant

pub returns-clause-goes : goal.returns-clause-goes
returns-clause-goes c = made-goes c.self.view_is c.listed_root.ensures.grows c.listed_root.ensures.faults

pub returns-clause-state : goal.returns-clause-state
returns-clause-state c = made-same c.self.view_is c.listed_root.ensures.grows c.listed_root.ensures.faults c.self.invariant

pub returns-clause-tree : goal.returns-clause-tree
returns-clause-tree c =
    let i = c.self.inside in
    let ts = i.cx.trees in
    let S = state_of ts i.mode i.inference in
    subst (λ (e : Evaluator). IfOk c.listed_root.result (λ x. arg_tree c.listed_root.new.cx.trees x ≡ current (listing e) (state e) (arg_tree e.context.trees c.args.arg))) c.self.view_is
    (if-ok-then c.listed_root.result _ _
    (λ a e. e ∙ (ap (λ ps. listed_at (listing_of ts ps) S (arg_tree ts c.resolved_root-root.result)) c.as_slice.ensures.value ∙ ap (listed_at (listing_of ts i.normal.items) S) (c.resolved_root-root.ensures.tree i.mode)))
    (c.listed_root.ensures.tree i.mode))

pub returns-clause-cause : goal.returns-clause-cause
returns-clause-cause c =
    let i = c.self.inside in
    let S = state_of i.cx.trees i.mode i.inference in
    subst (λ (e : Evaluator). IfErr c.listed_root.result (λ s. IsTreeStop c.listed_root.new.cx.trees (resolved_tree (state e) (resolved_root (state e) (arg_tree e.context.trees c.args.arg))) s)) c.self.view_is
    (subst (λ t. IfErr c.listed_root.result (λ s. IsTreeStop c.listed_root.new.cx.trees (resolved_tree S t) s)) (c.resolved_root-root.ensures.tree i.mode) (c.listed_root.ensures.cause i.mode))

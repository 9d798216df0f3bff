use Rattle.std.proofs.Common.{reverse, subst, sym}
use Rattle.std.specs.Prelude.{IfSome}
use Rattle.ir_trees.specs.Instantiation.Folds.{arg_tree}
use Rattle.ir_trees.specs.Syntax.Nodes.{tree_at}
use Rattle.candidate_rounds.specs.Calls.Repeating.{IsReady, IsReadyAt}
use Rattle.candidate_rounds.specs.Evaluators.Known.{AreTypes, Each, Evaluator, listing, listing_by, pairs_of, state, state_of, tree_of}
use Rattle.candidate_rounds.proofs.Equations.Repeating.{ready-some}
use Rattle.candidate_rounds.proofs.Evaluators.Between.{parts}
use Rattle.candidate_rounds.proofs.Evaluators.Interface.{made-goes, made-same}
use Rattle.candidate_rounds.proofs.Snapshots.Holding.{kinds-now}
use Rattle.candidate_rounds.proofs.Snapshots.ResolvedValues.{evaluator-grown}
use Rattle.candidate_rounds.proofs.rounds.Rounds.ready.Goals as goal

pub ready_in-requires-clause-known : goal.ready_in-requires-clause-known
ready_in-requires-clause-known c = (parts c.self.invariant).consistent.known

pub ready_in-requires-clause-kinds : goal.ready_in-requires-clause-kinds
ready_in-requires-clause-kinds c = kinds-now c.self.inside.cx.trees c.self.inside.inference (reverse c.self.inside.probes.items) (parts c.self.invariant).consistent

pub ready_in-requires-clause-types : goal.ready_in-requires-clause-types
ready_in-requires-clause-types c = subst (Each (AreTypes c.self.inside.cx.trees)) (sym c.as_slice.ensures.value) (parts c.self.invariant).given.types

pub invariant_of-self : goal.invariant_of-self
invariant_of-self c = evaluator-grown _ _ _ _ _ _ _ c.ready_in.ensures.grows c.self.invariant

pub returns-clause-goes : goal.returns-clause-goes
returns-clause-goes c = made-goes c.self.view_is c.ready_in.ensures.grows c.ready_in.ensures.faults

pub returns-clause-state : goal.returns-clause-state
returns-clause-state c = made-same c.self.view_is c.ready_in.ensures.grows c.ready_in.ensures.faults c.self.invariant

pub returns-clause-ready : goal.returns-clause-ready
returns-clause-ready c =
    let i = c.self.inside in
    let ts = i.cx.trees in
    let S = state_of ts i.mode i.inference in
    let us = c.ready_in.new.cx.trees in
    let r = c.ready_in.result in
    subst (λ (e : Evaluator). IfSome r (λ a. IsReady (listing e) (state e) (tree_of e c.args.number) (arg_tree us a))) c.self.view_is
    (ready-some us (listing_by ts (record { pairs = i.normal.items; is_open = i.opens })) (parts c.self.invariant).given.listing S (tree_at ts c.args.number) r
    (subst (λ ps. IfSome r (λ a. IsReadyAt (pairs_of ts ps) S (tree_at ts c.args.number) (arg_tree us a))) c.as_slice.ensures.value (c.ready_in.ensures.ready i.mode)))

use Rattle.std.proofs.Common.{reverse, ◌∙◌, ap, subst}
use Rattle.ir_trees.specs.Instantiation.Folds.{arg_tree}
use Rattle.candidate_rounds.specs.Evaluators.Known.{listing_of, state_of}
use Rattle.rounds_judge.specs.Aliases.Listed.{normalized_tree}
use Rattle.rounds_judge.specs.Equations.Scopes.{placed_tree}
use Rattle.candidate_rounds.proofs.Obligations.Gathering.{if-ok-then}
use Rattle.candidate_rounds.proofs.Resolution.Listing.{listing-kept, types-kept}
use Rattle.std.proofs.lemmas.Result.{err_from_is_err_and, IfErr-weaker}
use Rattle.candidate_rounds.proofs.Stops.Stopping.{normal-is}
use Rattle.candidate_rounds.specs.Evaluators.Stopping.{IsTreeStop, of_resolved, of_listed, of_placed}
use Rattle.ir_trees.proofs.Growth.Kept.{grows-trans}
use Rattle.candidate_rounds.proofs.rounds.values.value_in.Goals as goal

pub normalized-requires-clause-types : goal.normalized-requires-clause-types
normalized-requires-clause-types c = types-kept c.args.cx.now c.resolved_arg.new.cx c.args.normal.now c.resolved_arg.ensures.grows c.requires.types

pub returns-clause-tree : goal.returns-clause-tree
returns-clause-tree c = λ m.
    let ts = c.args.cx.now.trees in
    if-ok-then c.placed.result _ _
    (λ a e. e ∙ ap (placed_tree (reverse c.args.universes.now))
    (c.in_ok-listed.ensures.tree
    ∙ (ap (λ l. normalized_tree l (arg_tree c.resolved_arg.new.cx.trees c.in_ok-resolved.resolved)) (listing-kept c.args.cx.now c.resolved_arg.new.cx c.args.normal.now c.resolved_arg.ensures.grows c.requires.types)
    ∙ ap (normalized_tree (listing_of ts c.args.normal.now)) (c.in_ok-resolved.ensures.tree m))))
    c.placed.ensures.tree

pub returns-in_err-resolved-clause-cause : goal.returns-in_err-resolved-clause-cause
returns-in_err-resolved-clause-cause c = λ m.
    let p = err_from_is_err_and c.from_residual.result c.from_residual.ensures.1 in
    rw (p.1, p.2) (of_resolved (c.in_err-resolved.ensures.cause m))

pub returns-in_err-listed-clause-cause : goal.returns-in_err-listed-clause-cause
returns-in_err-listed-clause-cause c = λ m.
    let p = err_from_is_err_and c.from_residual-in_err-listed.result c.from_residual-in_err-listed.ensures.1 in
    let is =
    normal-is c.args.cx.now c.resolved_arg.new.cx c.args.normal.now (state_of c.args.cx.now.trees m c.args.inference.now) c.args.arg c.in_ok-resolved.resolved c.resolved_arg.ensures.grows c.requires.types
    (c.in_ok-resolved.ensures.tree m) in
    rw (p.1, p.2) (of_listed (subst (λ t. IsTreeStop c.normalized.new.cx.trees t c.in_err-listed.field-0.0) is c.in_err-listed.ensures.cause))

pub returns-clause-cause : goal.returns-clause-cause
returns-clause-cause c = λ m.
    let us = reverse c.args.universes.now in
    let is =
    normal-is c.args.cx.now c.resolved_arg.new.cx c.args.normal.now (state_of c.args.cx.now.trees m c.args.inference.now) c.args.arg c.in_ok-resolved.resolved c.resolved_arg.ensures.grows c.requires.types
    (c.in_ok-resolved.ensures.tree m) in
    IfErr-weaker c.placed.result _ _ (λ s k. of_placed (subst (λ t. IsTreeStop c.placed.new.cx.trees (placed_tree us t) s) (c.in_ok-listed.ensures.tree ∙ is) k)) c.placed.ensures.cause

pub returns-in_err-listed-clause-grows : goal.returns-in_err-listed-clause-grows
returns-in_err-listed-clause-grows c = grows-trans _ _ _ c.resolved_arg.ensures.grows c.normalized.ensures.grows

pub returns-clause-grows : goal.returns-clause-grows
returns-clause-grows c = grows-trans _ _ _ (grows-trans _ _ _ c.resolved_arg.ensures.grows c.normalized.ensures.grows) c.placed.ensures.grows

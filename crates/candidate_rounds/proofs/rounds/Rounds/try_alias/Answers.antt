use Rattle.std.proofs.Common.{◌∙◌}
use Rattle.ir_trees.specs.Syntax.Words.{ty_tree}
use Rattle.ir_trees.proofs.Growth.Kept.{ty-kept}
use Rattle.candidate_rounds.specs.Evaluators.Known.{listing, state}
use Rattle.candidate_rounds.specs.Evaluators.Stopping.{IsProjectionStop, of_resolved_alias}
use Rattle.candidate_rounds.proofs.Obligations.Evaluating.{alias-answered, answers-alike, not-listed}
use Rattle.candidate_rounds.proofs.Equations.OpenSides.{if-err}
use Rattle.candidate_rounds.proofs.Evaluators.Going.{goes-listing, goes-trans}
use Rattle.candidate_rounds.proofs.Stops.SettlingStops.{alias-unequal, stop-becomes}
use Rattle.candidate_rounds.proofs.Evaluators.Between.{parts}
use Rattle.candidate_rounds.proofs.Evaluators.Exits.{not-refused}
use Rattle.candidate_rounds.proofs.rounds.Rounds.try_alias.Goals as goal

pub returns-in_default-clause-ok : goal.returns-in_default-clause-ok
returns-in_default-clause-ok c =
    let old = c.args.self.now in
    let mid = c.resolve_ty_if_possible.new.self in
    not-listed (listing old) (listing mid) (state old) (state mid) (ty_tree old.context.trees c.args.alias) (ty_tree old.context.trees c.args.term) (ty_tree mid.context.trees c.in_ok-resolved.resolved)
    (goes-listing old mid c.resolve_ty_if_possible.ensures.goes (parts c.recall_well_kept.ensures).given) c.resolve_ty_if_possible.ensures.same c.in_ok-resolved.ensures.tree c.in_default.ensures

pub returns-in_err-resolved-clause-cause : goal.returns-in_err-resolved-clause-cause
returns-in_err-resolved-clause-cause c =
    let old = c.args.self.now in
    let ts = c.resolve_ty_if_possible.new.self.context.trees in
    stop-becomes (IsProjectionStop ts (listing old) (state old) (ty_tree old.context.trees c.args.alias) (ty_tree old.context.trees c.args.term)) c.from_residual.result c.in_err-resolved.field-0.0 c.from_residual.ensures.1
    (of_resolved_alias c.in_err-resolved.ensures.cause)

pub returns-in_err-resolved-clause-refused : goal.returns-in_err-resolved-clause-refused
returns-in_err-resolved-clause-refused c = not-refused _ c.from_residual.result _ c.from_residual.ensures.1

pub try_listed-requires-clause-listed : goal.try_listed-requires-clause-listed
try_listed-requires-clause-listed c = c.in-Some.ensures.0

pub try_listed-requires-clause-term : goal.try_listed-requires-clause-term
try_listed-requires-clause-term c = (ty-kept c.args.self.now.context c.resolve_ty_if_possible.new.self.context c.args.term c.resolve_ty_if_possible.ensures.goes.0 c.requires.term).0

pub returns-clause-goes : goal.returns-clause-goes
returns-clause-goes c = goes-trans c.args.self.now c.resolve_ty_if_possible.new.self c.try_listed.new.self c.resolve_ty_if_possible.ensures.goes c.try_listed.ensures.goes

pub returns-clause-ok : goal.returns-clause-ok
returns-clause-ok c =
    let old = c.args.self.now in
    let mid = c.resolve_ty_if_possible.new.self in
    answers-alike c.try_listed.result _ _ _ (alias-answered (listing old) (listing mid) (state old) (state mid) (ty_tree old.context.trees c.args.alias) (ty_tree old.context.trees c.args.term) (ty_tree mid.context.trees c.in_ok-resolved.resolved)
    (ty_tree mid.context.trees c.in-Some.listed) (ty_tree mid.context.trees c.args.term)
    (goes-listing old mid c.resolve_ty_if_possible.ensures.goes (parts c.recall_well_kept.ensures).given) c.resolve_ty_if_possible.ensures.same c.in_ok-resolved.ensures.tree
    (ty-kept old.context mid.context c.args.term c.resolve_ty_if_possible.ensures.goes.0 c.requires.term).1 c.in-Some.ensures.1) c.try_listed.ensures.ok

pub returns-clause-refused : goal.returns-clause-refused
returns-clause-refused c =
    let old = c.args.self.now in
    let mid = c.resolve_ty_if_possible.new.self in
    if-err c.try_listed.result _ _ (λ e k n. alias-answered (listing old) (listing mid) (state old) (state mid) (ty_tree old.context.trees c.args.alias) (ty_tree old.context.trees c.args.term) (ty_tree mid.context.trees c.in_ok-resolved.resolved)
    (ty_tree mid.context.trees c.in-Some.listed) (ty_tree mid.context.trees c.args.term)
    (goes-listing old mid c.resolve_ty_if_possible.ensures.goes (parts c.recall_well_kept.ensures).given) c.resolve_ty_if_possible.ensures.same c.in_ok-resolved.ensures.tree
    (ty-kept old.context mid.context c.args.term c.resolve_ty_if_possible.ensures.goes.0 c.requires.term).1 c.in-Some.ensures.1 ∙ k n) c.try_listed.ensures.refused

pub returns-clause-cause : goal.returns-clause-cause
returns-clause-cause c =
    let old = c.args.self.now in
    let mid = c.resolve_ty_if_possible.new.self in
    let us = c.try_listed.new.self.context.trees in
    if-err c.try_listed.result _ _ (λ e k s n. alias-unequal us (listing old) (listing mid) (state old) (state mid) (ty_tree old.context.trees c.args.alias) (ty_tree old.context.trees c.args.term) (ty_tree mid.context.trees c.in_ok-resolved.resolved)
    (ty_tree mid.context.trees c.in-Some.listed) (ty_tree mid.context.trees c.args.term) s
    (goes-listing old mid c.resolve_ty_if_possible.ensures.goes (parts c.recall_well_kept.ensures).given) c.resolve_ty_if_possible.ensures.same c.in_ok-resolved.ensures.tree
    (ty-kept old.context mid.context c.args.term c.resolve_ty_if_possible.ensures.goes.0 c.requires.term).1 c.in-Some.ensures.1 (k s n)) c.try_listed.ensures.cause

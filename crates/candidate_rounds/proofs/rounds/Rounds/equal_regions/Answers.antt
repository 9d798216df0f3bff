use Rattle.std.proofs.Common.{◌∙◌, ap, subst}
use Rattle.ir_trees.specs.Syntax.Words.{region_tree}
use Rattle.candidate_rounds.specs.Evaluators.Known.{state}
use Rattle.rounds_judge.specs.Equations.Scopes.{placed_tree}
use Rattle.std.proofs.Common.{reverse, subst}
use Rattle.candidate_rounds.proofs.Evaluators.Going.{goes-trans, region-kept}
use Rattle.candidate_rounds.proofs.Equations.Offering.{regions-equal}
use Rattle.std.proofs.lemmas.Result.{err_from_is_err_and, IfErr-weaker}
use Rattle.candidate_rounds.specs.Evaluators.Stopping.{IsRegionsStop, IsTreeStop, of_left_region, of_right_region, of_regions}
use Rattle.candidate_rounds.proofs.rounds.Rounds.equal_regions.Goals as goal

pub placed_region-requires-2 : goal.placed_region-requires-2
placed_region-requires-2 c = (region-kept c.args.self.now.context c.placed_region.new.self.context c.args.right c.placed_region.ensures.goes.0 c.requires.right).0

pub record_equal_regions-requires-clause-first : goal.record_equal_regions-requires-clause-first
record_equal_regions-requires-clause-first c = (region-kept c.placed_region.new.self.context c.placed_region-2.new.self.context c.in_ok-left.left c.placed_region-2.ensures.goes.0 c.in_ok-left.ensures.sort).0

pub returns-clause-goes : goal.returns-clause-goes
returns-clause-goes c =
    goes-trans c.args.self.now c.placed_region.new.self c.record_equal_regions.new.self c.placed_region.ensures.goes
    (goes-trans c.placed_region.new.self c.placed_region-2.new.self c.record_equal_regions.new.self c.placed_region-2.ensures.goes c.record_equal_regions.ensures.goes)

pub returns-clause-recorded : goal.returns-clause-recorded
returns-clause-recorded c =
    let old = c.args.self.now in
    let mid = c.placed_region.new.self in
    let new = c.placed_region-2.new.self in
    let us = reverse c.args.universes.now in
    let left = (region-kept mid.context new.context c.in_ok-left.left c.placed_region-2.ensures.goes.0 c.in_ok-left.ensures.sort).1 ∙ c.in_ok-left.ensures.tree in
    let right = c.in_ok-right.ensures.tree ∙ ap (placed_tree us) (region-kept old.context mid.context c.args.right c.placed_region.ensures.goes.0 c.requires.right).1 in
    regions-equal c.record_equal_regions.result (state c.record_equal_regions.new.self) (state old) (state mid) (state new) (region_tree new.context.trees c.in_ok-left.left) (region_tree new.context.trees c.in_ok-right.right)
    (placed_tree us (region_tree old.context.trees c.args.left)) (placed_tree us (region_tree old.context.trees c.args.right)) c.placed_region-2.ensures.state c.placed_region.ensures.state left right c.record_equal_regions.ensures.recorded

pub returns-in_err-left-clause-cause : goal.returns-in_err-left-clause-cause
returns-in_err-left-clause-cause c =
    let p = err_from_is_err_and c.from_residual.result c.from_residual.ensures.1 in
    rw (p.1, p.2) (of_left_region c.in_err-left.ensures.cause)

pub returns-in_err-right-clause-cause : goal.returns-in_err-right-clause-cause
returns-in_err-right-clause-cause c =
    let old = c.args.self.now in
    let mid = c.placed_region.new.self in
    let us = reverse c.args.universes.now in
    let p = err_from_is_err_and c.from_residual-in_err-right.result c.from_residual-in_err-right.ensures.1 in
    let same = (region-kept old.context mid.context c.args.right c.placed_region.ensures.goes.0 c.requires.right).1 in
    rw (p.1, p.2) (of_right_region (subst (λ t. IsTreeStop c.placed_region-2.new.self.context.trees (placed_tree us t) c.in_err-right.field-0.0) same c.in_err-right.ensures.cause))

pub returns-clause-cause : goal.returns-clause-cause
returns-clause-cause c =
    let old = c.args.self.now in
    let mid = c.placed_region.new.self in
    let new = c.placed_region-2.new.self in
    let ts = c.record_equal_regions.new.self.context.trees in
    let us = reverse c.args.universes.now in
    let left = (region-kept mid.context new.context c.in_ok-left.left c.placed_region-2.ensures.goes.0 c.in_ok-left.ensures.sort).1 ∙ c.in_ok-left.ensures.tree in
    let right = c.in_ok-right.ensures.tree ∙ ap (placed_tree us) (region-kept old.context mid.context c.args.right c.placed_region.ensures.goes.0 c.requires.right).1 in
    IfErr-weaker c.record_equal_regions.result _ _
    (λ s k. of_regions
    (subst (λ t. IsRegionsStop ts (placed_tree us (region_tree old.context.trees c.args.left)) t s) right (subst (λ t. IsRegionsStop ts t (region_tree new.context.trees c.in_ok-right.right) s) left k)))
    c.record_equal_regions.ensures.cause

pub returns-in_err-right-clause-goes : goal.returns-in_err-right-clause-goes
returns-in_err-right-clause-goes c = goes-trans c.args.self.now c.placed_region.new.self c.placed_region-2.new.self c.placed_region.ensures.goes c.placed_region-2.ensures.goes

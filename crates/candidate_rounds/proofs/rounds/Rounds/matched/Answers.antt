use Rattle.std.proofs.Common.{ap}
use Rattle.ir_trees.specs.Syntax.Nodes.{tree_at}
use Rattle.ir_trees.specs.Syntax.Words.{region_tree}
use Rattle.candidate_rounds.specs.Calls.Frames.{pairs_of}
use Rattle.candidate_rounds.specs.Evaluators.Known.{state}
use Rattle.candidate_rounds.proofs.Equations.Framing.{frames-kept, pairs-kept}
use Rattle.candidate_rounds.proofs.Equations.Offering.{regions-matched}
use Rattle.candidate_rounds.proofs.Stops.EquatingStops.{below-unmatched, question, regions-unmatched}
use Rattle.candidate_rounds.proofs.Evaluators.Exits.{not-refused}
use Rattle.candidate_rounds.proofs.rounds.Rounds.matched.Goals as goal

pub returns-in-Some-clause-frames : goal.returns-in-Some-clause-frames
returns-in-Some-clause-frames c =
    frames-kept c.args.self.now.context.trees c.equal_regions.new.self.context.trees c.args.rest.now.universes.items c.args.rest.now.frames.items c.equal_regions.ensures.goes.0.kept c.requires.frames

pub returns-in-Some-clause-ok : goal.returns-in-Some-clause-ok
returns-in-Some-clause-ok c =
    let old = c.args.self.now in
    let new = c.equal_regions.new.self in
    let ts = old.context.trees in
    let us = c.args.rest.now.universes.items in
    let fs = c.args.rest.now.frames.items in
    let is = c.in-Some.ensures in
    regions-matched (state old) (state new) us c.as_slice.result.now (tree_at ts c.args.left) (tree_at ts c.args.right) (region_tree ts c.in-Some.left) (region_tree ts c.in-Some.right)
    (pairs_of ts us fs) (pairs_of new.context.trees us fs) is.4 c.as_slice.ensures.value (ap (tree_at ts) is.0) (ap (tree_at ts) is.1)
    (pairs-kept ts new.context.trees us fs c.equal_regions.ensures.goes.0.kept c.requires.frames) c.in_ok-equal_regions.ensures.recorded

pub returns-in_err-equal_regions-clause-cause : goal.returns-in_err-equal_regions-clause-cause
returns-in_err-equal_regions-clause-cause c =
    let old = c.args.self.now in
    let ts = old.context.trees in
    let is = c.in-Some.ensures in
    question _ c.from_residual.result _ c.from_residual.ensures.1
    (regions-unmatched c.equal_regions.new.self.context.trees (state old) c.args.rest.now.universes.items c.as_slice.result.now (tree_at ts c.args.left) (tree_at ts c.args.right) (region_tree ts c.in-Some.left)
    (region_tree ts c.in-Some.right) _ is.4 c.as_slice.ensures.value (ap (tree_at ts) is.0) (ap (tree_at ts) is.1) c.in_err-equal_regions.ensures.cause)

pub returns-in_err-enter_below-clause-cause : goal.returns-in_err-enter_below-clause-cause
returns-in_err-enter_below-clause-cause c =
    question _ c.from_residual-in_err-enter_below.result _ c.from_residual-in_err-enter_below.ensures.1 (below-unmatched _ _ _ _ _ _ c.in_err-enter_below.ensures.cause)

pub returns-in_err-equal_regions-clause-refused : goal.returns-in_err-equal_regions-clause-refused
returns-in_err-equal_regions-clause-refused c = not-refused _ c.from_residual.result _ c.from_residual.ensures.1

pub returns-in_err-enter_below-clause-refused : goal.returns-in_err-enter_below-clause-refused
returns-in_err-enter_below-clause-refused c = not-refused _ c.from_residual-in_err-enter_below.result _ c.from_residual-in_err-enter_below.ensures.1

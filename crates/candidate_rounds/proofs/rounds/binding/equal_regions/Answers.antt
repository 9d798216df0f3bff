use Rattle.candidate_rounds.proofs.Evaluators.Going.{region-kept}
use Rattle.candidate_rounds.proofs.Equations.Recording.{clause-kept, outlives-kept}
use Rattle.std.proofs.lemmas.Result.{err_from_is_err_and}
use Rattle.std.proofs.Common.{subst}
use Rattle.candidate_rounds.specs.Evaluators.Stopping.{IsTreeStop, of_first, of_second}
use Rattle.ir_trees.specs.Syntax.Words.{region_tree}
use Rattle.rounds_judge.specs.Equations.Equating.{outlives}
use Rattle.ir_trees.proofs.Growth.Kept.{grows-trans}
use Rattle.candidate_rounds.proofs.rounds.binding.equal_regions.Goals as goal

pub outlives-requires-2-clause-first : goal.outlives-requires-2-clause-first
outlives-requires-2-clause-first c = (region-kept c.args.cx.now c.outlives.new.cx c.args.b c.outlives.ensures.grows c.requires.second).0

pub outlives-requires-2-clause-second : goal.outlives-requires-2-clause-second
outlives-requires-2-clause-second c = (region-kept c.args.cx.now c.outlives.new.cx c.args.a c.outlives.ensures.grows c.requires.first).0

pub returns-clause-one : goal.returns-clause-one
returns-clause-one c = clause-kept c.outlives.new.cx c.outlives-2.new.cx c.in_ok-one.one _ c.outlives-2.ensures.grows c.in_ok-one.ensures.sort c.in_ok-one.ensures.tree

pub returns-clause-other : goal.returns-clause-other
returns-clause-other c = outlives-kept c.args.cx.now c.outlives.new.cx c.in_ok-other.other c.outlives-2.new.cx.trees c.args.b c.args.a c.outlives.ensures.grows c.requires.second c.requires.first c.in_ok-other.ensures.sort c.in_ok-other.ensures.tree

pub returns-in_err-one-clause-cause : goal.returns-in_err-one-clause-cause
returns-in_err-one-clause-cause c =
    let p = err_from_is_err_and c.from_residual.result c.from_residual.ensures.1 in
    rw (p.1, p.2) (of_first c.in_err-one.ensures.cause)

pub returns-in_err-other-clause-cause : goal.returns-in_err-other-clause-cause
returns-in_err-other-clause-cause c =
    let mid = c.outlives.new.cx in
    let ts = c.outlives-2.new.cx.trees in
    let s = c.in_err-other.field-0.0 in
    let p = err_from_is_err_and c.from_residual-in_err-other.result c.from_residual-in_err-other.ensures.1 in
    let x = (region-kept c.args.cx.now mid c.args.a c.outlives.ensures.grows c.requires.first).1 in
    let y = (region-kept c.args.cx.now mid c.args.b c.outlives.ensures.grows c.requires.second).1 in
    rw (p.1, p.2)
    (of_second
    (subst (λ t. IsTreeStop ts (outlives t (region_tree c.args.cx.now.trees c.args.a)) s) y (subst (λ t. IsTreeStop ts (outlives (region_tree mid.trees c.args.b) t) s) x c.in_err-other.ensures.cause)))

pub returns-in_err-other-clause-grows : goal.returns-in_err-other-clause-grows
returns-in_err-other-clause-grows c = grows-trans _ _ _ c.outlives.ensures.grows c.outlives-2.ensures.grows

pub returns-clause-grows : goal.returns-clause-grows
returns-clause-grows c = grows-trans _ _ _ c.outlives.ensures.grows c.outlives-2.ensures.grows

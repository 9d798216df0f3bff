use Rattle.candidate_rounds.proofs.Resolution.Normals.{constant-normalized}
use Rattle.candidate_rounds.proofs.Evaluators.Between.{parts}
use Rattle.std.proofs.Common.{◌∙◌, ap}
use Rattle.ir_trees.specs.Syntax.Trees.{none}
use Rattle.ir_trees.specs.Syntax.Words.{const_tree}
use Rattle.rounds_judge.specs.Aliases.Normalizing.{normalized}
use Rattle.rounds_judge.proofs.Aliases.WellListed.{all-listed}
use Rattle.candidate_rounds.specs.Evaluators.Known.{listing, state}
use Rattle.candidate_rounds.specs.Evaluators.Stopping.{normal_value}
use Rattle.std.proofs.Common.{Ok}
use Rattle.std.proofs.lemmas.Result.{err_from_is_err_and}
use Rattle.candidate_rounds.proofs.rounds.evaluator.RoundsEvalCtxt.structurally_normalize_const.Goals as goal

pub returns-in_err-resolve_const_if_possible-clause-kept : goal.returns-in_err-resolve_const_if_possible-clause-kept
returns-in_err-resolve_const_if_possible-clause-kept c = c.resolve_const_if_possible.ensures.kept

pub returns-clause-kept : goal.returns-clause-kept
returns-clause-kept c = c.resolve_const_if_possible.ensures.kept

pub returns-clause-listed : goal.returns-clause-listed
returns-clause-listed c e =
    constant-normalized c.args.self.now c.resolve_const_if_possible.new.self c.args.constant e (Ok c.in_ok-resolve_const_if_possible.field-0) c.resolve_const_if_possible.ensures.goes.0 c.resolve_const_if_possible.ensures.goes.1.0 (parts c.recall_well_kept.ensures).given c.resolve_const_if_possible.ensures.same c.in_ok-resolve_const_if_possible.ensures.sort c.in_ok-resolve_const_if_possible.ensures.tree

pub returns-clause-ok : goal.returns-clause-ok
returns-clause-ok c =
    let old = c.args.self.now in
    ap (λ l. normalized l (state old) none (const_tree old.context.trees c.args.constant)) (all-listed (listing old) (parts c.recall_well_kept.ensures).given.listing)
    ∙ constant-normalized c.args.self.now c.resolve_const_if_possible.new.self c.args.constant none (Ok c.in_ok-resolve_const_if_possible.field-0) c.resolve_const_if_possible.ensures.goes.0 c.resolve_const_if_possible.ensures.goes.1.0 (parts c.recall_well_kept.ensures).given c.resolve_const_if_possible.ensures.same c.in_ok-resolve_const_if_possible.ensures.sort c.in_ok-resolve_const_if_possible.ensures.tree

pub returns-in_err-resolve_const_if_possible-clause-cause : goal.returns-in_err-resolve_const_if_possible-clause-cause
returns-in_err-resolve_const_if_possible-clause-cause c =
    let p = err_from_is_err_and c.from_residual.result c.from_residual.ensures.1 in
    rw (p.1, p.2) (normal_value c.in_err-resolve_const_if_possible.ensures.cause)

use Rattle.ir_trees.specs.Syntax.Words.{clause_tree}
use Rattle.candidate_rounds.specs.Calls.Giving.{IsConstraintStop, no_constraint, of_constraint_put, translation_of}
use Rattle.candidate_rounds.proofs.Evaluators.Going.{goes-trans}
use Rattle.candidate_rounds.proofs.Stops.ResponseStops.{passed-on, refused-growth}
use Rattle.candidate_rounds.proofs.rounds.Rounds.record_translated.Goals as goal

pub returns-clause-goes : goal.returns-clause-goes
returns-clause-goes c = goes-trans c.args.self.now c.translate.new.self c.record_region.new.self c.translate.ensures.goes c.record_region.ensures.goes

pub returns-in_err-region-clause-cause : goal.returns-in_err-region-clause-cause
returns-in_err-region-clause-cause c =
    passed-on (IsConstraintStop c.translate.new.self.context.trees (translation_of c.args.translation.now) (clause_tree c.args.self.now.context.trees c.args.constraint)) c.from_residual.result c.in_err-region.field-0.0 c.from_residual.ensures.1
    (of_constraint_put c.in_err-region.ensures.cause)

pub returns-clause-cause : goal.returns-clause-cause
returns-clause-cause c =
    refused-growth (IsConstraintStop c.record_region.new.self.context.trees (translation_of c.args.translation.now) (clause_tree c.args.self.now.context.trees c.args.constraint)) c.record_region.result c.record_region.ensures.cause no_constraint

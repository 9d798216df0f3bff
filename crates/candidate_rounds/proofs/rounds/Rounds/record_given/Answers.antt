use Rattle.std.proofs.Common.{map}
use Rattle.ir_trees.specs.Syntax.Words.{clause_tree}
use Rattle.ir_trees.proofs.Growth.Made.{IsClause-listed}
use Rattle.candidate_rounds.specs.Calls.Giving.{AreConstraintsStop, translation_of}
use Rattle.candidate_rounds.proofs.Table.Giving.{constraint-unput, one-recorded}
use Rattle.candidate_rounds.proofs.Evaluators.Going.{goes-trans}
use Rattle.candidate_rounds.proofs.Snapshots.Knowing.{is-clause-stays}
use Rattle.candidate_rounds.proofs.Stops.ResponseStops.{passed-on}
use Rattle.candidate_rounds.proofs.rounds.Rounds.record_given.Goals as goal

pub record_translated-requires : goal.record_translated-requires
record_translated-requires c =
    is-clause-stays c.args.self.now.context.trees c.loop-i.self.context.trees _ c.loop-i.invariant.goes.0.kept (IsClause-listed c.args.self.now.context.trees c.args.constraints.now c.loop-i.i _ c.loop-i-test.true c.requires)

pub returns-in_err-record_translated-clause-goes : goal.returns-in_err-record_translated-clause-goes
returns-in_err-record_translated-clause-goes c = goes-trans c.args.self.now c.loop-i.self c.record_translated.new.self c.loop-i.invariant.goes c.record_translated.ensures.goes

pub returns-in_err-record_translated-clause-cause : goal.returns-in_err-record_translated-clause-cause
returns-in_err-record_translated-clause-cause c =
    passed-on (AreConstraintsStop c.record_translated.new.self.context.trees (translation_of c.args.translation.now) (map (clause_tree c.args.self.now.context.trees) c.args.constraints.now)) c.from_residual.result c.in_err-record_translated.field-0.0 c.from_residual.ensures.1
    (constraint-unput c.args.self.now c.loop-i.self c.record_translated.new.self (translation_of c.args.translation.now) c.args.constraints.now c.loop-i.i _ c.requires c.loop-i.invariant c.loop-i-test.true c.in_err-record_translated.field-0.0 c.in_err-record_translated.ensures.cause)

pub loop-i-preserved : goal.loop-i-preserved
loop-i-preserved c =
    one-recorded c.args.self.now c.loop-i.self c.record_translated.new.self (translation_of c.args.translation.now) c.args.constraints.now c.loop-i.i _ c.requires c.loop-i.invariant c.loop-i-test.true c.record_translated.ensures.goes c.in_ok-record_translated.ensures.recorded

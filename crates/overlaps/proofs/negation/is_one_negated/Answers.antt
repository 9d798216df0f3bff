use Rattle.std.proofs.Common.{slice_index_or}
use Rattle.ir_folds.proofs.Instantiation.Joining.{clause-kept}
use Rattle.candidate_eval.proofs.Dynamic.Objects.{env-kept}
use Rattle.candidate_eval.proofs.Outcomes.Pairs.{clause_there}
use Rattle.candidate_rounds.specs.Evaluators.Known.{sure_of}
use Rattle.overlaps.proofs.Negated.{one-denied}
use Rattle.overlaps.proofs.Stopping.{later-steps, passed-on, stop-later}
use Rattle.overlaps.specs.Stopping.{IsOverlapStop}
use Rattle.overlaps.proofs.Staying.{stays-refl, stays-trans}
use Rattle.overlaps.proofs.negation.is_one_negated.Goals as goal

pub loop-number-init : goal.loop-number-init
loop-number-init c = stays-refl c.args.rounds.now

pub is_negation_answered-requires-clause-env : goal.is_negation_answered-requires-clause-env
is_negation_answered-requires-clause-env c = (env-kept _ _ c.args.env c.loop-number.invariant.grows c.requires.env).0

pub is_negation_answered-requires-clause-clause : goal.is_negation_answered-requires-clause-clause
is_negation_answered-requires-clause-clause c =
    let x = slice_index_or c.args.clauses.now c.loop-number.number (record { 0 = 0 }) in
    (clause-kept _ _ x c.loop-number.invariant.grows (clause_there _ c.args.clauses.now (record { 0 = 0 }) c.loop-number.number c.requires.clauses c.loop-number-test.true)).0

pub returns-in_err-is_negation_answered-clause-stays : goal.returns-in_err-is_negation_answered-clause-stays
returns-in_err-is_negation_answered-clause-stays c = stays-trans c.loop-number.invariant c.is_negation_answered.ensures.stays

pub returns-in_err-is_negation_answered-clause-cause : goal.returns-in_err-is_negation_answered-clause-cause
returns-in_err-is_negation_answered-clause-cause c = passed-on (IsOverlapStop c.args.rounds.now c.is_negation_answered.new.rounds) c.from_residual.result c.in_err-is_negation_answered.field-0.0 c.from_residual.ensures.1 (stop-later (later-steps c.loop-number.invariant) c.in_err-is_negation_answered.ensures.cause)

pub returns-then-branch-clause-stays : goal.returns-then-branch-clause-stays
returns-then-branch-clause-stays c = stays-trans c.loop-number.invariant c.is_negation_answered.ensures.stays

pub returns-then-branch-clause-denied : goal.returns-then-branch-clause-denied
returns-then-branch-clause-denied c = λ e.
    one-denied c.args.rounds.now c.loop-number.rounds c.args.env c.args.clauses.now c.loop-number.number (record { 0 = 0 }) (sure_of c.is_negation_answered.new.rounds) c.loop-number.invariant c.requires.env c.requires.clauses
    c.loop-number-test.true (c.in_ok-is_negation_answered.ensures.denied c.if-branch.true)

pub loop-number-preserved : goal.loop-number-preserved
loop-number-preserved c = stays-trans c.loop-number.invariant c.is_negation_answered.ensures.stays

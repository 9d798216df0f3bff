use Rattle.std.proofs.Common.{slice_index_or}
use Rattle.ir_trees.proofs.Growth.Kept.{args-kept}
use Rattle.ir_folds.proofs.Instantiation.Joining.{clause-kept}
use Rattle.candidate_eval.proofs.Dynamic.Objects.{env-kept}
use Rattle.candidate_eval.proofs.Outcomes.Pairs.{clause_there}
use Rattle.candidate_rounds.specs.Evaluators.Known.{sure_of}
use Rattle.overlaps.proofs.Negated.{one-negated}
use Rattle.overlaps.proofs.Refusing.{got-there}
use Rattle.overlaps.proofs.Stopping.{later-steps, passed-on, stop-later}
use Rattle.overlaps.specs.Stopping.{IsOverlapStop}
use Rattle.overlaps.proofs.Staying.{stays-refl, stays-trans}
use Rattle.overlaps.proofs.negation.first_negated.Goals as goal

pub loop-number-init : goal.loop-number-init
loop-number-init c = stays-refl c.args.rounds.now

pub is_clause_negated-requires-clause-env : goal.is_clause_negated-requires-clause-env
is_clause_negated-requires-clause-env c = (env-kept _ _ c.args.env c.loop-number.invariant.grows c.requires.env).0

pub is_clause_negated-requires-clause-clause : goal.is_clause_negated-requires-clause-clause
is_clause_negated-requires-clause-clause c =
    let x = slice_index_or c.args.clauses.now c.loop-number.number (record { 0 = 0 }) in
    (clause-kept _ _ x c.loop-number.invariant.grows (clause_there _ c.args.clauses.now (record { 0 = 0 }) c.loop-number.number c.requires.clauses.fit c.loop-number-test.true)).0

pub is_clause_negated-requires-clause-locals : goal.is_clause_negated-requires-clause-locals
is_clause_negated-requires-clause-locals c = (args-kept _ _ c.args.locals c.loop-number.invariant.grows c.requires.locals).0

pub is_clause_negated-requires-clause-there : goal.is_clause_negated-requires-clause-there
is_clause_negated-requires-clause-there c =
    let lt = c.loop-number-test.true in
    let x = slice_index_or c.args.clauses.now c.loop-number.number (record { 0 = 0 }) in
    let grows = c.loop-number.invariant.grows in
    let is = clause-kept _ _ x grows (clause_there _ c.args.clauses.now (record { 0 = 0 }) c.loop-number.number c.requires.clauses.fit lt) in
    rw (is.1, (args-kept _ _ c.args.locals grows c.requires.locals).1) (c.requires.clauses.have c.loop-number.number (record { 0 = 0 }) lt)

pub returns-in_err-is_clause_negated-clause-stays : goal.returns-in_err-is_clause_negated-clause-stays
returns-in_err-is_clause_negated-clause-stays c = stays-trans c.loop-number.invariant c.is_clause_negated.ensures.stays

pub returns-in_err-is_clause_negated-clause-cause : goal.returns-in_err-is_clause_negated-clause-cause
returns-in_err-is_clause_negated-clause-cause c = passed-on (IsOverlapStop c.args.rounds.now c.is_clause_negated.new.rounds) c.from_residual.result c.in_err-is_clause_negated.field-0.0 c.from_residual.ensures.1 (stop-later (later-steps c.loop-number.invariant) c.in_err-is_clause_negated.ensures.cause)

pub returns-then-branch-clause-stays : goal.returns-then-branch-clause-stays
returns-then-branch-clause-stays c = stays-trans c.loop-number.invariant c.is_clause_negated.ensures.stays

pub returns-then-branch-clause-negated : goal.returns-then-branch-clause-negated
returns-then-branch-clause-negated c =
    let xs = c.args.clauses.now in
    let n = c.loop-number.number in
    one-negated c.args.rounds.now c.loop-number.rounds c.args.env c.args.locals xs n (slice_index_or xs n (record { 0 = 0 })) (sure_of c.is_clause_negated.new.rounds) c.loop-number.invariant c.requires.env c.requires.locals
    c.requires.clauses.fit (got-there xs n (record { 0 = 0 }) c.loop-number-test.true) (c.in_ok-is_clause_negated.ensures.negated c.if-branch.true)

pub loop-number-preserved : goal.loop-number-preserved
loop-number-preserved c = stays-trans c.loop-number.invariant c.is_clause_negated.ensures.stays

use Rattle.std.proofs.Common.{arith, slice_index_or, ◌∙◌}
use Rattle.ir_trees.proofs.Growth.Kept.{args-kept}
use Rattle.ir_folds.proofs.Instantiation.Joining.{clause-kept}
use Rattle.candidate_eval.proofs.Dynamic.Objects.{env-kept}
use Rattle.candidate_eval.proofs.Outcomes.Pairs.{clause_there}
use Rattle.overlaps.proofs.PureFolder.{all-answered, asked-then, none-answered, one-answered}
use Rattle.overlaps.proofs.Refusing.{got-there}
use Rattle.overlaps.proofs.Uncertainty.{one-not}
use Rattle.overlaps.proofs.Stopping.{later-steps, passed-on, stop-later}
use Rattle.overlaps.specs.Stopping.{IsOverlapStop}
use Rattle.overlaps.proofs.answered.first_unanswered.Goals as goal

pub loop-number-init : goal.loop-number-init
loop-number-init c = none-answered c.args.rounds.now c.args.env c.args.locals c.args.clauses.now

pub is_clause_answered-requires-clause-env : goal.is_clause_answered-requires-clause-env
is_clause_answered-requires-clause-env c = (env-kept _ _ c.args.env c.loop-number.invariant.asked.stays.grows c.requires.env).0

pub is_clause_answered-requires-clause-clause : goal.is_clause_answered-requires-clause-clause
is_clause_answered-requires-clause-clause c =
    let x = slice_index_or c.args.clauses.now c.loop-number.number (record { 0 = 0 }) in
    (clause-kept _ _ x c.loop-number.invariant.asked.stays.grows (clause_there _ c.args.clauses.now (record { 0 = 0 }) c.loop-number.number c.requires.clauses.fit c.loop-number-test.true)).0

pub is_clause_answered-requires-clause-locals : goal.is_clause_answered-requires-clause-locals
is_clause_answered-requires-clause-locals c = (args-kept _ _ c.args.locals c.loop-number.invariant.asked.stays.grows c.requires.locals).0

pub is_clause_answered-requires-clause-there : goal.is_clause_answered-requires-clause-there
is_clause_answered-requires-clause-there c =
    let lt = c.loop-number-test.true in
    let x = slice_index_or c.args.clauses.now c.loop-number.number (record { 0 = 0 }) in
    let grows = c.loop-number.invariant.asked.stays.grows in
    let is = clause-kept _ _ x grows (clause_there _ c.args.clauses.now (record { 0 = 0 }) c.loop-number.number c.requires.clauses.fit lt) in
    rw (is.1, (args-kept _ _ c.args.locals grows c.requires.locals).1) (c.requires.clauses.have c.loop-number.number (record { 0 = 0 }) lt)

pub returns-in_err-is_clause_answered-clause-stays : goal.returns-in_err-is_clause_answered-clause-stays
returns-in_err-is_clause_answered-clause-stays c = (asked-then c.loop-number.invariant.asked c.is_clause_answered.ensures.stays c.is_clause_answered.ensures.table).stays

pub returns-in_err-is_clause_answered-clause-table : goal.returns-in_err-is_clause_answered-clause-table
returns-in_err-is_clause_answered-clause-table c = (asked-then c.loop-number.invariant.asked c.is_clause_answered.ensures.stays c.is_clause_answered.ensures.table).table

pub returns-then-not-branch-clause-stays : goal.returns-then-not-branch-clause-stays
returns-then-not-branch-clause-stays c = (asked-then c.loop-number.invariant.asked c.is_clause_answered.ensures.stays c.is_clause_answered.ensures.table).stays

pub returns-then-not-branch-clause-table : goal.returns-then-not-branch-clause-table
returns-then-not-branch-clause-table c = (asked-then c.loop-number.invariant.asked c.is_clause_answered.ensures.stays c.is_clause_answered.ensures.table).table

pub loop-number-preserved : goal.loop-number-preserved
loop-number-preserved c =
    let xs = c.args.clauses.now in
    let n = c.loop-number.number in
    let x = slice_index_or xs n (record { 0 = 0 }) in
    one-answered c.args.rounds.now c.loop-number.rounds c.is_clause_answered.new.rounds c.args.env c.args.locals xs n x c.loop-number.invariant c.is_clause_answered.ensures.stays c.is_clause_answered.ensures.table c.is_clause_answered.ensures.sure c.requires.env c.requires.locals
    c.requires.clauses.fit (got-there xs n (record { 0 = 0 }) c.loop-number-test.true) (c.in_ok-is_clause_answered.ensures.holds c.if-not-branch.false)

pub returns-clause-stays : goal.returns-clause-stays
returns-clause-stays c = c.loop-number.invariant.asked.stays

pub returns-clause-table : goal.returns-clause-table
returns-clause-table c = c.loop-number.invariant.asked.table

pub returns-clause-hold : goal.returns-clause-hold
returns-clause-hold c = λ e.
    all-answered c.args.rounds.now c.loop-number.rounds c.args.env c.args.locals c.args.clauses.now c.loop-number.number c.loop-number.invariant (omega (arith, c.loop-number-test.false))

pub returns-in_err-is_clause_answered-clause-cause : goal.returns-in_err-is_clause_answered-clause-cause
returns-in_err-is_clause_answered-clause-cause c = passed-on (IsOverlapStop c.args.rounds.now c.is_clause_answered.new.rounds) c.from_residual.result c.in_err-is_clause_answered.field-0.0 c.from_residual.ensures.1 (stop-later (later-steps c.loop-number.invariant.asked.stays) c.in_err-is_clause_answered.ensures.cause)

pub returns-then-not-branch-clause-uncertain : goal.returns-then-not-branch-clause-uncertain
returns-then-not-branch-clause-uncertain c =
    let xs = c.args.clauses.now in
    let n = c.loop-number.number in
    let x = slice_index_or xs n (record { 0 = 0 }) in
    one-not c.args.rounds.now c.loop-number.rounds c.args.env c.args.locals xs n x (record { stays = c.loop-number.invariant.asked.stays; sure = c.loop-number.invariant.sure }) c.requires.env c.requires.locals c.requires.clauses.fit (got-there xs n (record { 0 = 0 }) c.loop-number-test.true)
    (c.in_ok-is_clause_answered.ensures.uncertain c.if-not-branch.true)

pub returns-in_err-is_clause_answered-clause-sure : goal.returns-in_err-is_clause_answered-clause-sure
returns-in_err-is_clause_answered-clause-sure c = c.is_clause_answered.ensures.sure ∙ c.loop-number.invariant.sure

pub returns-then-not-branch-clause-sure : goal.returns-then-not-branch-clause-sure
returns-then-not-branch-clause-sure c = c.is_clause_answered.ensures.sure ∙ c.loop-number.invariant.sure

pub returns-clause-sure : goal.returns-clause-sure
returns-clause-sure c = c.loop-number.invariant.sure

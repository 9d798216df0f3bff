use Rattle.std.proofs.Common.{add-one, arith, drop-cons, ◌≡◌, ◌+◌, ◌∷◌, drop, slice_index_or}
use Rattle.ir_trees.specs.Syntax.Words.{env_forest}
use Rattle.ir_folds.proofs.Instantiation.Joining.{clause-kept}
use Rattle.candidate_eval.proofs.Dynamic.Objects.{env-kept}
use Rattle.candidate_eval.proofs.Outcomes.Pairs.{clause_there}
use Rattle.overlaps.proofs.Staying.{known-then}
use Rattle.overlaps.proofs.Stopping.{later-known, passed-on, stop-later}
use Rattle.overlaps.proofs.Typed.{all-taken, none-taken, one-taken-under}
use Rattle.overlaps.specs.Stopping.{IsOverlapStop}
use Rattle.overlaps.proofs.specializing.take_up_all.Goals as goal

pub loop-number-init : goal.loop-number-init
loop-number-init c = none-taken c.args.rounds.now (env_forest c.args.rounds.now.context.trees c.args.env) c.args.clauses.now c.args.left.now.items c.requires.left

pub take_up-requires-clause-env : goal.take_up-requires-clause-env
take_up-requires-clause-env c = (env-kept _ _ c.args.env c.loop-number.invariant.stays.grows c.requires.env).0

pub take_up-requires-clause-clause : goal.take_up-requires-clause-clause
take_up-requires-clause-clause c =
    let x = slice_index_or c.args.clauses.now c.loop-number.number (record { 0 = 0 }) in
    (clause-kept _ _ x c.loop-number.invariant.stays.grows (clause_there _ c.args.clauses.now (record { 0 = 0 }) c.loop-number.number c.requires.clauses c.loop-number-test.true)).0

pub take_up-requires-clause-left : goal.take_up-requires-clause-left
take_up-requires-clause-left c = c.loop-number.invariant.fit

pub returns-in_err-take_up-clause-stays : goal.returns-in_err-take_up-clause-stays
returns-in_err-take_up-clause-stays c = known-then c.loop-number.invariant.stays c.take_up.ensures.stays

pub returns-in_err-take_up-clause-cause : goal.returns-in_err-take_up-clause-cause
returns-in_err-take_up-clause-cause c = passed-on (IsOverlapStop c.args.rounds.now c.take_up.new.rounds) c.from_residual.result c.in_err-take_up.field-0.0 c.from_residual.ensures.1 (stop-later (later-known c.loop-number.invariant.stays) c.in_err-take_up.ensures.cause)

pub returns-then-not-branch-clause-stays : goal.returns-then-not-branch-clause-stays
returns-then-not-branch-clause-stays c = known-then c.loop-number.invariant.stays c.take_up.ensures.stays

pub loop-number-preserved : goal.loop-number-preserved
loop-number-preserved c =
    let xs = c.args.clauses.now in
    let n = c.loop-number.number in
    let x = slice_index_or xs n (record { 0 = 0 }) in
    let lt = c.loop-number-test.true in
    let split : drop n xs ≡ x ∷ drop (n + 1) xs = rw add-one (drop-cons xs n (record { 0 = 0 }) lt) in
    let so = c.loop-number.invariant in
    one-taken-under c.args.rounds.now c.loop-number.rounds c.take_up.new.rounds c.args.env xs x c.loop-number.left.items c.take_up.new.left.items n so c.take_up.ensures.stays c.requires.env
    (clause_there _ xs (record { 0 = 0 }) n c.requires.clauses lt) split (c.in_ok-take_up.ensures.taken c.if-not-branch.false)

pub returns-clause-stays : goal.returns-clause-stays
returns-clause-stays c = c.loop-number.invariant.stays

pub returns-clause-taken : goal.returns-clause-taken
returns-clause-taken c = λ e.
    all-taken c.args.rounds.now c.loop-number.rounds (env_forest c.args.rounds.now.context.trees c.args.env) c.args.clauses.now c.loop-number.left.items c.loop-number.number c.loop-number.invariant (omega (arith, c.loop-number-test.false))

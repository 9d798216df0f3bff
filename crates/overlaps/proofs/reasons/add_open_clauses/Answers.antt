use Rattle.std.proofs.Common.{arith}
use Rattle.candidate_eval.proofs.Dynamic.Objects.{env-kept}
use Rattle.candidate_eval.proofs.Interface.Accounts.{memory-somehow}
use Rattle.overlaps.specs.Stopping.{IsOverlapStop}
use Rattle.overlaps.proofs.OpenClauses.{all-listed, impl-later, none-listed, one-more}
use Rattle.overlaps.proofs.PureFolder.{asked-then}
use Rattle.overlaps.proofs.Stopping.{asking-stop, later-steps, passed-on, stop-later}
use Rattle.overlaps.proofs.reasons.add_open_clauses.Goals as goal

pub loop-number-init : goal.loop-number-init
loop-number-init c = none-listed c.args.rounds.now c.args.env c.args.of.now c.args.list.now.items

pub open_clause-requires-clause-env : goal.open_clause-requires-clause-env
open_clause-requires-clause-env c = (env-kept _ _ c.args.env c.loop-number.invariant.asked.stays.grows c.requires.env).0

pub open_clause-requires-clause-open : goal.open_clause-requires-clause-open
open_clause-requires-clause-open c = impl-later _ _ c.args.of.now c.loop-number.invariant.asked.stays.grows c.requires.open

pub loop-number-preserved : goal.loop-number-preserved
loop-number-preserved c =
    let so = c.loop-number.invariant in
    one-more c.args.rounds.now c.loop-number.rounds c.open_clause.new.rounds c.args.env c.args.of.now c.args.list.now.items c.loop-number.number c.loop-number.list.items c.add_if_open.new.list.items c.in_ok-found.found so
    (asked-then so.asked c.open_clause.ensures.stays c.open_clause.ensures.table) c.open_clause.ensures.stays.grows c.requires.env c.requires.open c.in_ok-found.ensures.is c.in_ok-add_if_open.ensures.adds

pub returns-in_err-found-clause-stays : goal.returns-in_err-found-clause-stays
returns-in_err-found-clause-stays c = (asked-then c.loop-number.invariant.asked c.open_clause.ensures.stays c.open_clause.ensures.table).stays

pub returns-in_err-found-clause-table : goal.returns-in_err-found-clause-table
returns-in_err-found-clause-table c = (asked-then c.loop-number.invariant.asked c.open_clause.ensures.stays c.open_clause.ensures.table).table

pub returns-in_err-found-clause-cause : goal.returns-in_err-found-clause-cause
returns-in_err-found-clause-cause c = passed-on (IsOverlapStop c.args.rounds.now c.open_clause.new.rounds) c.from_residual.result c.in_err-found.field-0.0 c.from_residual.ensures.1 (stop-later (later-steps c.loop-number.invariant.asked.stays) c.in_err-found.ensures.cause)

pub returns-in_err-add_if_open-clause-stays : goal.returns-in_err-add_if_open-clause-stays
returns-in_err-add_if_open-clause-stays c = (asked-then c.loop-number.invariant.asked c.open_clause.ensures.stays c.open_clause.ensures.table).stays

pub returns-in_err-add_if_open-clause-table : goal.returns-in_err-add_if_open-clause-table
returns-in_err-add_if_open-clause-table c = (asked-then c.loop-number.invariant.asked c.open_clause.ensures.stays c.open_clause.ensures.table).table

pub returns-in_err-add_if_open-clause-cause : goal.returns-in_err-add_if_open-clause-cause
returns-in_err-add_if_open-clause-cause c =
    let so = asked-then c.loop-number.invariant.asked c.open_clause.ensures.stays c.open_clause.ensures.table in
    passed-on (IsOverlapStop c.args.rounds.now c.open_clause.new.rounds) c.from_residual-in_err-add_if_open.result c.in_err-add_if_open.field-0.0 c.from_residual-in_err-add_if_open.ensures.1
    (asking-stop (later-steps so.stays) (memory-somehow c.in_err-add_if_open.ensures.cause))

pub returns-clause-stays : goal.returns-clause-stays
returns-clause-stays c = c.loop-number.invariant.asked.stays

pub returns-clause-table : goal.returns-clause-table
returns-clause-table c = c.loop-number.invariant.asked.table

pub returns-clause-adds : goal.returns-clause-adds
returns-clause-adds c =
    all-listed c.args.rounds.now c.loop-number.rounds c.args.env c.args.of.now c.args.list.now.items c.loop-number.number c.loop-number.list.items c.loop-number.invariant (omega (arith, c.loop-number-test.false))

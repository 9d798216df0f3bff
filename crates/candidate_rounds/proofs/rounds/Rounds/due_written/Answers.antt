use Rattle.std.proofs.Common.{◌≡◌, ◌<◌, ◌+◌, suc, length, rules, sym, subst, arith}
use Rattle.ir_trees.specs.declared.ir.stop.Stop.TheVariants.{Memory}
use Rattle.candidate_eval.specs.Interface.Noting.{refused_note}
use Rattle.candidate_rounds.specs.Evaluators.Known.{table_of}
use Rattle.candidate_rounds.specs.Table.Running.{IsRoundStop, round_looking}
use Rattle.candidate_rounds.proofs.Stops.ResponseStops.{passed-on}
use Rattle.candidate_rounds.proofs.Table.Running.{WrittenSoFar, none-written, one-more-written, round-stop-before, same-length, stays-trans}
use Rattle.rounds_judge.specs.Table.Rounds.{AnyEntry}
use Rattle.candidate_rounds.proofs.rounds.Rounds.due_written.Goals as goal

pub returns-in_err-due_written_at-clause-cause : goal.returns-in_err-due_written_at-clause-cause
returns-in_err-due_written_at-clause-cause c =
    let r = c.args.self.now in
    let on = c.loop-place.invariant in
    let stop = c.in_err-due_written_at.field-0.0 in
    let ts = c.due_written_at.new.self.context.trees in
    passed-on (IsRoundStop ts r (table_of r)) c.from_residual.result stop c.from_residual.ensures.1
    (round-stop-before on.stays ts (table_of r) stop (subst (λ T. IsRoundStop ts c.loop-place.self T stop) on.table c.in_err-due_written_at.ensures.cause))

pub returns-in_err-push-clause-cause : goal.returns-in_err-push-clause-cause
returns-in_err-push-clause-cause c =
    let r = c.args.self.now in
    passed-on (IsRoundStop c.due_written_at.new.self.context.trees r (table_of r)) c.from_residual-in_err-push.result Memory c.from_residual-in_err-push.ensures.1 (round_looking refused_note)

pub loop-place-init : goal.loop-place-init
loop-place-init c = subst (WrittenSoFar AnyEntry c.args.self.now c.args.self.now 0) (sym c.new-list.ensures.items) (none-written AnyEntry c.args.self.now)

pub returns-in_err-due_written_at-clause-stays : goal.returns-in_err-due_written_at-clause-stays
returns-in_err-due_written_at-clause-stays c = stays-trans c.loop-place.invariant.stays c.due_written_at.ensures.stays

pub returns-in_err-push-clause-stays : goal.returns-in_err-push-clause-stays
returns-in_err-push-clause-stays c = stays-trans c.loop-place.invariant.stays c.due_written_at.ensures.stays

pub loop-place-preserved : goal.loop-place-preserved
loop-place-preserved c =
    let at = c.loop-place in
    let w = c.in_ok-due_written_at.field-0 in
    let said = c.in_ok-due_written_at.ensures in
    let many = same-length c.args.self.now at.self at.invariant.table in
    let below : at.place < length at.self.goals.table = search rules in
    let next : suc at.place ≡ at.place + 1 = omega arith in
    subst (λ n. WrittenSoFar AnyEntry c.args.self.now c.due_written_at.new.self n c.push.new.self.items) next
    (subst (λ ws. WrittenSoFar AnyEntry c.args.self.now c.due_written_at.new.self (suc at.place) ws) (sym c.in_ok-push.ensures.items)
    (one-more-written AnyEntry at.place at.list.items w at.invariant below said.stays said.table said.written))

use Rattle.std.proofs.Common.{◌≡◌, ◌+◌, suc, refl, sym, ◌∙◌, subst, arith}
use Rattle.candidate_eval.specs.Interface.Noting.{refused_note}
use Rattle.candidate_rounds.specs.Evaluators.Known.{table_of}
use Rattle.candidate_rounds.specs.Table.Running.{IsRoundStop, round_looking, verdict_at}
use Rattle.candidate_rounds.proofs.Stops.ResponseStops.{passed-on}
use Rattle.candidate_rounds.proofs.Table.Rounding.{RoundsOn, err-table, if-err, longer, no-rounds, none-needed, on-ok, one-more-on, ran-all, ran-final, ran-still, stopped-at-once, stopped-on}
use Rattle.candidate_rounds.proofs.Table.Running.{round-stop-before, stays-refl, stays-trans}
use Rattle.candidate_rounds.proofs.Table.Settled.{final-has-one}
use Rattle.candidate_rounds.proofs.rounds.Rounds.rounds.Goals as goal

pub verdict_at-requires-clause-some : goal.verdict_at-requires-clause-some
verdict_at-requires-clause-some c = final-has-one (verdict_at (table_of c.args.self.now) c.args.place) (sym c.is_final_at.ensures ∙ c.if-is_final_at.true)

pub returns-then-is_final_at-clause-stays : goal.returns-then-is_final_at-clause-stays
returns-then-is_final_at-clause-stays c = stays-refl c.args.self.now

pub returns-then-is_final_at-clause-ran : goal.returns-then-is_final_at-clause-ran
returns-then-is_final_at-clause-ran c = on-ok c.verdict_at.result (none-needed c.args.self.now c.args.place c.args.rounds (sym c.is_final_at.ensures ∙ c.if-is_final_at.true))

pub returns-then-is_final_at-clause-stopped : goal.returns-then-is_final_at-clause-stopped
returns-then-is_final_at-clause-stopped c = err-table c.verdict_at.result (stopped-at-once c.args.self.now c.args.self.now c.args.place c.args.rounds refl c.requires.some)

pub returns-then-is_final_at-clause-cause : goal.returns-then-is_final_at-clause-cause
returns-then-is_final_at-clause-cause c =
    let r = c.args.self.now in
    if-err c.verdict_at.result (λ s m. subst (IsRoundStop r.context.trees r (table_of r)) (sym m) (round_looking refused_note)) c.verdict_at.ensures.cause

pub loop-next-init : goal.loop-next-init
loop-next-init c =
    let some = c.requires.some in
    (no-rounds c.args.self.now c.args.place c.requires.place (sym c.is_final_at.ensures ∙ c.if-is_final_at.false), omega (arith, some))

pub returns-in_err-left-clause-stays : goal.returns-in_err-left-clause-stays
returns-in_err-left-clause-stays c = stays-trans c.loop-next.invariant.0.stays c.in_err-left.ensures.stays

pub returns-in_err-left-clause-stopped : goal.returns-in_err-left-clause-stopped
returns-in_err-left-clause-stopped c =
    let most = c.loop-next.invariant.1 in
    err-table c.from_residual.result (stopped-on c.round.new.self c.args.place c.loop-next._next c.args.rounds c.loop-next.invariant.0 c.in_err-left.ensures.stopped most)

pub returns-in_err-left-clause-cause : goal.returns-in_err-left-clause-cause
returns-in_err-left-clause-cause c =
    let r = c.args.self.now in
    let at = c.loop-next in
    let on = at.invariant.0 in
    let stop = c.in_err-left.field-0.0 in
    let ts = c.round.new.self.context.trees in
    passed-on (IsRoundStop ts r (table_of c.round.new.self)) c.from_residual.result stop c.from_residual.ensures.1
    (subst (λ T. IsRoundStop ts r T stop) (sym c.in_err-left.ensures.stopped) (round-stop-before on.stays ts (table_of at.self) stop c.in_err-left.ensures.cause))

pub returns-then-left-clause-stays : goal.returns-then-left-clause-stays
returns-then-left-clause-stays c = stays-trans c.loop-next.invariant.0.stays c.in_ok-left.ensures.stays

pub returns-then-left-clause-ran : goal.returns-then-left-clause-ran
returns-then-left-clause-ran c =
    let at = c.loop-next in
    let said = c.in_ok-left.ensures in
    let test = c.loop-next-test.true in
    ran-still c.args.place at._next at.invariant.0 said.stays said.round c.args.rounds (omega (arith, test)) (said.still c.if-left.true)

pub is_final_at-requires-in-loop-next : goal.is_final_at-requires-in-loop-next
is_final_at-requires-in-loop-next c =
    let r = c.args.self.now in
    let at = c.loop-next in
    let on = at.invariant.0 in
    let said = c.in_ok-left.ensures in
    longer c.args.place at._next on said.stays said.round

pub returns-then-is_final_at-2-clause-stays : goal.returns-then-is_final_at-2-clause-stays
returns-then-is_final_at-2-clause-stays c = stays-trans c.loop-next.invariant.0.stays c.in_ok-left.ensures.stays

pub returns-then-is_final_at-2-clause-ran : goal.returns-then-is_final_at-2-clause-ran
returns-then-is_final_at-2-clause-ran c =
    let r = c.args.self.now in
    let at = c.loop-next in
    let on = at.invariant.0 in
    let said = c.in_ok-left.ensures in
    ran-final c.args.place at._next on said.stays said.round c.args.rounds c.loop-next-test.true (said.changes c.if-left.false) (sym c.is_final_at-in-loop-next.ensures ∙ c.if-is_final_at-2.true)

pub loop-next-preserved : goal.loop-next-preserved
loop-next-preserved c =
    let r = c.args.self.now in
    let at = c.loop-next in
    let on = at.invariant.0 in
    let said = c.in_ok-left.ensures in
    let next : suc at._next ≡ at._next + 1 = omega arith in
    let test = c.loop-next-test.true in (
      subst (RoundsOn r c.round.new.self c.args.place) next (one-more-on c.args.place at._next on said.stays said.round (said.changes c.if-left.false) (sym c.is_final_at-in-loop-next.ensures ∙ c.if-is_final_at-2.false)),
      omega (arith, test),
    )

pub returns-in_err-left-2-clause-stays : goal.returns-in_err-left-2-clause-stays
returns-in_err-left-2-clause-stays c = stays-trans c.loop-next.invariant.0.stays c.in_err-left-2.ensures.stays

pub returns-in_err-left-2-clause-stopped : goal.returns-in_err-left-2-clause-stopped
returns-in_err-left-2-clause-stopped c =
    let at = c.loop-next in
    err-table c.from_residual-in_err-left-2.result (stopped-on c.round-2.new.self c.args.place at._next c.args.rounds at.invariant.0 c.in_err-left-2.ensures.stopped at.invariant.1)

pub returns-in_err-left-2-clause-cause : goal.returns-in_err-left-2-clause-cause
returns-in_err-left-2-clause-cause c =
    let r = c.args.self.now in
    let at = c.loop-next in
    let stop = c.in_err-left-2.field-0.0 in
    let ts = c.round-2.new.self.context.trees in
    passed-on (IsRoundStop ts r (table_of c.round-2.new.self)) c.from_residual-in_err-left-2.result stop c.from_residual-in_err-left-2.ensures.1
    (subst (λ T. IsRoundStop ts r T stop) (sym c.in_err-left-2.ensures.stopped) (round-stop-before at.invariant.0.stays ts (table_of at.self) stop c.in_err-left-2.ensures.cause))

pub returns-clause-stays : goal.returns-clause-stays
returns-clause-stays c = stays-trans c.loop-next.invariant.0.stays c.in_ok-left-2.ensures.stays

pub returns-clause-ran : goal.returns-clause-ran
returns-clause-ran c =
    let at = c.loop-next in
    let said = c.in_ok-left-2.ensures in
    let test = c.loop-next-test.false in
    let most = at.invariant.1 in
    ran-all c.args.place at._next at.invariant.0 said.stays said.round c.args.rounds c.in_ok-left-2.left.is_still (omega (arith, test, most)) said.still said.changes

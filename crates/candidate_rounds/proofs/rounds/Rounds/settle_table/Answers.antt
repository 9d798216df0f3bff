use Rattle.std.proofs.Common.{◌≡◌, ◌+◌, ◌≤◌, ◌<◌, suc, length, refl, sym, ◌∙◌, subst, arith}
use Rattle.candidate_eval.specs.Interface.Noting.{refused_note}
use Rattle.candidate_rounds.specs.Evaluators.Known.{table_of}
use Rattle.candidate_rounds.specs.Table.Running.{IsRoundStop, round_looking, verdict_at}
use Rattle.candidate_rounds.proofs.Stops.ResponseStops.{passed-on}
use Rattle.candidate_rounds.proofs.Table.Rounding.{err-table, if-err, on-ok}
use Rattle.candidate_rounds.proofs.Table.Running.{round-stop-before, stays-refl, stays-trans}
use Rattle.candidate_rounds.proofs.Table.Settled.{StepsOn, final-has-one, first-final, first-on, first-still, has-one, last-step, none-yet, one-more-step, place-after, settled-already, still-below, still-some, used-up, within-last, within-steps}
use Rattle.candidate_rounds.proofs.rounds.Rounds.settle_table.Goals as goal

pub verdict_at-requires-clause-some : goal.verdict_at-requires-clause-some
verdict_at-requires-clause-some c = final-has-one (verdict_at (table_of c.args.self.now) c.args.place) (sym c.is_final_at.ensures ∙ c.if-is_final_at.true)

pub returns-then-is_final_at-clause-stays : goal.returns-then-is_final_at-clause-stays
returns-then-is_final_at-clause-stays c = stays-refl c.args.self.now

pub returns-then-is_final_at-clause-settled : goal.returns-then-is_final_at-clause-settled
returns-then-is_final_at-clause-settled c = on-ok c.verdict_at.result (settled-already c.args.self.now c.args.place (sym c.is_final_at.ensures ∙ c.if-is_final_at.true))

pub returns-then-is_final_at-clause-stopped : goal.returns-then-is_final_at-clause-stopped
returns-then-is_final_at-clause-stopped c = err-table c.verdict_at.result (λ k p. none-yet c.args.self.now c.args.self.now refl k)

pub returns-then-is_final_at-clause-cause : goal.returns-then-is_final_at-clause-cause
returns-then-is_final_at-clause-cause c =
    let r = c.args.self.now in
    if-err c.verdict_at.result (λ s m. subst (IsRoundStop r.context.trees r (table_of r)) (sym m) (round_looking refused_note)) c.verdict_at.ensures.cause

pub returns-in_err-first-clause-stopped : goal.returns-in_err-first-clause-stopped
returns-in_err-first-clause-stopped c = err-table c.from_residual.result (λ k p. none-yet c.args.self.now c.round.new.self c.in_err-first.ensures.stopped k)

pub returns-in_err-first-clause-cause : goal.returns-in_err-first-clause-cause
returns-in_err-first-clause-cause c =
    let r = c.args.self.now in
    let ts = c.round.new.self.context.trees in
    let stop = c.in_err-first.field-0.0 in
    passed-on (IsRoundStop ts r (table_of c.round.new.self)) c.from_residual.result stop c.from_residual.ensures.1
    (subst (λ T. IsRoundStop ts r T stop) (sym c.in_err-first.ensures.stopped) c.in_err-first.ensures.cause)

pub returns-then-first-clause-settled : goal.returns-then-first-clause-settled
returns-then-first-clause-settled c =
    let said = c.in_ok-first.ensures in
    first-still c.args.self.now c.round.new.self c.args.place (sym c.is_final_at.ensures ∙ c.if-is_final_at.false) said.round (said.still c.if-first.true)

pub is_final_at-requires-2 : goal.is_final_at-requires-2
is_final_at-requires-2 c = place-after c.args.self.now c.round.new.self c.args.place c.in_ok-first.ensures.round c.requires.place

pub returns-then-is_final_at-2-clause-settled : goal.returns-then-is_final_at-2-clause-settled
returns-then-is_final_at-2-clause-settled c =
    first-final c.args.self.now c.round.new.self c.args.place (sym c.is_final_at.ensures ∙ c.if-is_final_at.false) c.in_ok-first.ensures.round (sym c.is_final_at-2.ensures ∙ c.if-is_final_at-2.true)

pub loop-next-init : goal.loop-next-init
loop-next-init c =
    let said = c.in_ok-first.ensures in (
      first-on c.args.self.now c.round.new.self c.args.place (sym c.is_final_at.ensures ∙ c.if-is_final_at.false) said.round said.stays c.requires.place (sym c.is_final_at-2.ensures ∙ c.if-is_final_at-2.false)
          (has-one (verdict_at (table_of c.round.new.self) c.args.place) _ said.answer),
      omega arith,
    )

pub next_step-requires-clause-place : goal.next_step-requires-clause-place
next_step-requires-clause-place c = c.loop-next.invariant.0.below

pub next_step-requires-clause-open : goal.next_step-requires-clause-open
next_step-requires-clause-open c = c.loop-next.invariant.0.unsure

pub returns-in_err-next_step-clause-stays : goal.returns-in_err-next_step-clause-stays
returns-in_err-next_step-clause-stays c = stays-trans c.loop-next.invariant.0.stays c.in_err-next_step.ensures.stays

pub returns-in_err-next_step-clause-stopped : goal.returns-in_err-next_step-clause-stopped
returns-in_err-next_step-clause-stopped c =
    let at = c.loop-next in
    err-table c.from_residual-in_err-next_step.result (within-steps c.next_step.new.self c.args.place at._next at.invariant.0 c.in_err-next_step.ensures.stopped at.invariant.1)

pub returns-in_err-next_step-clause-cause : goal.returns-in_err-next_step-clause-cause
returns-in_err-next_step-clause-cause c =
    let r = c.args.self.now in
    let at = c.loop-next in
    let stop = c.in_err-next_step.field-0.0 in
    let ts = c.next_step.new.self.context.trees in
    passed-on (IsRoundStop ts r (table_of c.next_step.new.self)) c.from_residual-in_err-next_step.result stop c.from_residual-in_err-next_step.ensures.1
    (subst (λ T. IsRoundStop ts r T stop) (sym c.in_err-next_step.ensures.stopped) (round-stop-before at.invariant.0.stays ts (table_of at.self) stop c.in_err-next_step.ensures.cause))

pub verdict_at-requires-then-branch-clause-place : goal.verdict_at-requires-then-branch-clause-place
verdict_at-requires-then-branch-clause-place c =
    let at = c.loop-next in
    still-below c.args.place at._next at.invariant.0 c.in_ok-next_step.ensures.stays c.in_ok-next_step.ensures.step

pub verdict_at-requires-then-branch-clause-some : goal.verdict_at-requires-then-branch-clause-some
verdict_at-requires-then-branch-clause-some c =
    let at = c.loop-next in
    still-some c.args.place at._next at.invariant.0 c.in_ok-next_step.ensures.stays c.in_ok-next_step.ensures.step

pub returns-then-branch-clause-stays : goal.returns-then-branch-clause-stays
returns-then-branch-clause-stays c = stays-trans c.loop-next.invariant.0.stays c.in_ok-next_step.ensures.stays

pub returns-then-branch-clause-settled : goal.returns-then-branch-clause-settled
returns-then-branch-clause-settled c =
    let at = c.loop-next in
    let said = c.in_ok-next_step.ensures in
    on-ok c.verdict_at-then-branch.result (last-step c.args.place at._next at.invariant.0 said.stays said.step c.loop-next-test.true (said.last c.if-branch.true))

pub returns-then-branch-clause-stopped : goal.returns-then-branch-clause-stopped
returns-then-branch-clause-stopped c =
    let at = c.loop-next in
    let said = c.in_ok-next_step.ensures in
    err-table c.verdict_at-then-branch.result (within-last c.args.place at._next at.invariant.0 said.stays said.step c.loop-next-test.true)

pub returns-then-branch-clause-cause : goal.returns-then-branch-clause-cause
returns-then-branch-clause-cause c =
    let r = c.args.self.now in
    let n = c.next_step.new.self in
    if-err c.verdict_at-then-branch.result (λ s m. subst (IsRoundStop n.context.trees r (table_of n)) (sym m) (round_looking refused_note)) c.verdict_at-then-branch.ensures.cause

pub loop-next-preserved : goal.loop-next-preserved
loop-next-preserved c =
    let at = c.loop-next in
    let said = c.in_ok-next_step.ensures in
    let next : suc at._next ≡ at._next + 1 = omega arith in
    let test = c.loop-next-test.true in (
      subst (StepsOn c.args.self.now c.next_step.new.self c.args.place) next (one-more-step c.args.place at._next at.invariant.0 said.stays said.step (said.open c.if-branch.false)),
      omega (arith, test),
    )

pub returns-clause-stays : goal.returns-clause-stays
returns-clause-stays c = c.loop-next.invariant.0.stays

pub verdict_at-requires-2-clause-place : goal.verdict_at-requires-2-clause-place
verdict_at-requires-2-clause-place c = c.loop-next.invariant.0.below

pub verdict_at-requires-2-clause-some : goal.verdict_at-requires-2-clause-some
verdict_at-requires-2-clause-some c = c.loop-next.invariant.0.some

pub returns-clause-settled : goal.returns-clause-settled
returns-clause-settled c =
    let at = c.loop-next in
    let test = c.loop-next-test.false in
    let most = at.invariant.1 in
    on-ok c.verdict_at-2.result (used-up c.args.place at._next at.invariant.0 (omega (arith, test, most)))

pub returns-clause-stopped : goal.returns-clause-stopped
returns-clause-stopped c =
    let at = c.loop-next in
    err-table c.verdict_at-2.result (within-steps at.self c.args.place at._next at.invariant.0 refl at.invariant.1)

pub returns-clause-cause : goal.returns-clause-cause
returns-clause-cause c =
    let r = c.args.self.now in
    let s = c.loop-next.self in
    if-err c.verdict_at-2.result (λ e m. subst (IsRoundStop s.context.trees r (table_of s)) (sym m) (round_looking refused_note)) c.verdict_at-2.ensures.cause

use Rattle.std.proofs.Common.{◌≡◌, ◌<◌, false, inl, inr, length, sym, ◌∙◌, ap, subst}
use Rattle.candidate_rounds.specs.Evaluators.Known.{Evaluator, table_of}
use Rattle.candidate_rounds.specs.Table.Running.{IsRoundStop, StaysBesideTable, computing, verdict_at}
use Rattle.candidate_rounds.proofs.Stops.ResponseStops.{passed-on}
use Rattle.candidate_rounds.proofs.Table.Rounding.{err-table, place-verdict}
use Rattle.candidate_rounds.proofs.Table.Settled.{place-after, still-there}
use Rattle.rounds_judge.specs.Table.Rounds.{IsRound, IsStep}
use Rattle.rounds_judge.specs.Table.Verdicts.{is_final}
use Rattle.rounds_judge.proofs.Table.RoundLaws.{round_is_step}
use Rattle.candidate_rounds.proofs.rounds.Rounds.next_step.Goals as goal

pub is_final_at-requires : goal.is_final_at-requires
is_final_at-requires c =
    let d = c.choose_due.new.self in
    let l = subst (λ (x : Evaluator). c.args.place < length x.goals.table) (sym c.choose_due.ensures) c.requires.place in
    place-after d c.step_of_due.new.self c.args.place c.in_ok-step_of_due.ensures.step l

pub is_final_at-requires-2 : goal.is_final_at-requires-2
is_final_at-requires-2 c =
    let d = c.choose_due.new.self in
    let l = subst (λ (x : Evaluator). c.args.place < length x.goals.table) (sym c.choose_due.ensures) c.requires.place in
    place-after d c.round.new.self c.args.place c.in_ok-whole.ensures.round l

pub round-requires-clause-place : goal.round-requires-clause-place
round-requires-clause-place c = subst (λ (x : Evaluator). c.args.place < length x.goals.table) (sym c.choose_due.ensures) c.requires.place

pub round-requires-clause-open : goal.round-requires-clause-open
round-requires-clause-open c = subst (λ (x : Evaluator). is_final (verdict_at (table_of x) c.args.place) ≡ false) (sym c.choose_due.ensures) c.requires.open

pub returns-in_err-step_of_due-clause-stays : goal.returns-in_err-step_of_due-clause-stays
returns-in_err-step_of_due-clause-stays c = subst (λ (x : Evaluator). StaysBesideTable x c.step_of_due.new.self) c.choose_due.ensures c.in_err-step_of_due.ensures.stays

pub returns-in_err-step_of_due-clause-stopped : goal.returns-in_err-step_of_due-clause-stopped
returns-in_err-step_of_due-clause-stopped c =
    err-table c.from_residual.result (subst (λ (x : Evaluator). table_of c.step_of_due.new.self ≡ table_of x) c.choose_due.ensures c.in_err-step_of_due.ensures.stopped)

pub returns-in_err-step_of_due-clause-cause : goal.returns-in_err-step_of_due-clause-cause
returns-in_err-step_of_due-clause-cause c =
    let r = c.args.self.now in
    let ts = c.step_of_due.new.self.context.trees in
    let stop = c.in_err-step_of_due.field-0.0 in
    passed-on (IsRoundStop ts r (table_of r)) c.from_residual.result stop c.from_residual.ensures.1
    (subst (λ (x : Evaluator). IsRoundStop ts x (table_of x) stop) c.choose_due.ensures c.in_err-step_of_due.ensures.cause)

pub returns-then-choose_due-clause-stays : goal.returns-then-choose_due-clause-stays
returns-then-choose_due-clause-stays c = subst (λ (x : Evaluator). StaysBesideTable x c.step_of_due.new.self) c.choose_due.ensures c.in_ok-step_of_due.ensures.stays

pub returns-then-choose_due-clause-step : goal.returns-then-choose_due-clause-step
returns-then-choose_due-clause-step c = subst (λ (x : Evaluator). IsStep (computing x) (table_of x) (table_of c.step_of_due.new.self)) c.choose_due.ensures c.in_ok-step_of_due.ensures.step

pub returns-then-choose_due-clause-last : goal.returns-then-choose_due-clause-last
returns-then-choose_due-clause-last c = λ t k p.
    inl (ap is_final (place-verdict (table_of c.step_of_due.new.self) k c.args.place p) ∙ (sym c.is_final_at.ensures ∙ t))

pub returns-then-choose_due-clause-open : goal.returns-then-choose_due-clause-open
returns-then-choose_due-clause-open c = λ f. sym c.is_final_at.ensures ∙ f

pub returns-in_err-whole-clause-stays : goal.returns-in_err-whole-clause-stays
returns-in_err-whole-clause-stays c = subst (λ (x : Evaluator). StaysBesideTable x c.round.new.self) c.choose_due.ensures c.in_err-whole.ensures.stays

pub returns-in_err-whole-clause-stopped : goal.returns-in_err-whole-clause-stopped
returns-in_err-whole-clause-stopped c =
    err-table c.from_residual-in_err-whole.result (subst (λ (x : Evaluator). table_of c.round.new.self ≡ table_of x) c.choose_due.ensures c.in_err-whole.ensures.stopped)

pub returns-in_err-whole-clause-cause : goal.returns-in_err-whole-clause-cause
returns-in_err-whole-clause-cause c =
    let r = c.args.self.now in
    let ts = c.round.new.self.context.trees in
    let stop = c.in_err-whole.field-0.0 in
    passed-on (IsRoundStop ts r (table_of r)) c.from_residual-in_err-whole.result stop c.from_residual-in_err-whole.ensures.1
    (subst (λ (x : Evaluator). IsRoundStop ts x (table_of x) stop) c.choose_due.ensures c.in_err-whole.ensures.cause)

pub returns-then-whole-clause-stays : goal.returns-then-whole-clause-stays
returns-then-whole-clause-stays c = subst (λ (x : Evaluator). StaysBesideTable x c.round.new.self) c.choose_due.ensures c.in_ok-whole.ensures.stays

pub returns-then-whole-clause-step : goal.returns-then-whole-clause-step
returns-then-whole-clause-step c =
    round_is_step (subst (λ (x : Evaluator). IsRound (computing x) (table_of x) (table_of c.round.new.self)) c.choose_due.ensures c.in_ok-whole.ensures.round)

pub returns-then-whole-clause-last : goal.returns-then-whole-clause-last
returns-then-whole-clause-last c = λ _ k p.
    let n = c.round.new.self in
    let round = subst (λ (x : Evaluator). IsRound (computing x) (table_of x) (table_of n)) c.choose_due.ensures c.in_ok-whole.ensures.round in
    let same = subst (λ (x : Evaluator). table_of n ≡ table_of x) c.choose_due.ensures (c.in_ok-whole.ensures.still c.if-whole.true) in
    inr (still-there same round)

pub returns-clause-stays : goal.returns-clause-stays
returns-clause-stays c = subst (λ (x : Evaluator). StaysBesideTable x c.round.new.self) c.choose_due.ensures c.in_ok-whole.ensures.stays

pub returns-clause-step : goal.returns-clause-step
returns-clause-step c =
    round_is_step (subst (λ (x : Evaluator). IsRound (computing x) (table_of x) (table_of c.round.new.self)) c.choose_due.ensures c.in_ok-whole.ensures.round)

pub returns-clause-last : goal.returns-clause-last
returns-clause-last c = λ t k p.
    inl (ap is_final (place-verdict (table_of c.round.new.self) k c.args.place p) ∙ (sym c.is_final_at-2.ensures ∙ t))

pub returns-clause-open : goal.returns-clause-open
returns-clause-open c = λ f. sym c.is_final_at-2.ensures ∙ f

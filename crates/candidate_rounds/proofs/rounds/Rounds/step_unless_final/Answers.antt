use Rattle.std.proofs.Common.{sym, ◌∙◌, subst}
use Rattle.candidate_rounds.specs.Table.Running.{IsRoundStop}
use Rattle.candidate_rounds.proofs.Table.Rounding.{ok-table, stop-after}
use Rattle.candidate_rounds.proofs.Table.Running.{stays-refl}
use Rattle.candidate_rounds.proofs.Table.Settled.{one-settles, rest-already, settled-already}
use Rattle.candidate_rounds.proofs.rounds.Rounds.step_unless_final.Goals as goal

pub returns-then-is_final_at-clause-stays : goal.returns-then-is_final_at-clause-stays
returns-then-is_final_at-clause-stays c = stays-refl c.args.self.now

pub returns-then-is_final_at-clause-settled : goal.returns-then-is_final_at-clause-settled
returns-then-is_final_at-clause-settled c = settled-already c.args.self.now c.args.place (sym c.is_final_at.ensures ∙ c.if-is_final_at.true)

pub returns-then-is_final_at-clause-last : goal.returns-then-is_final_at-clause-last
returns-then-is_final_at-clause-last c = λ _ k p. rest-already c.args.self.now c.args.place (sym c.is_final_at.ensures ∙ c.if-is_final_at.true) k p

pub next_step-requires-clause-open : goal.next_step-requires-clause-open
next_step-requires-clause-open c = sym c.is_final_at.ensures ∙ c.if-is_final_at.false

pub returns-clause-settled : goal.returns-clause-settled
returns-clause-settled c =
    let unsure = sym c.is_final_at.ensures ∙ c.if-is_final_at.false in
    ok-table c.next_step.result (λ w k p. one-settles c.args.self.now c.next_step.new.self c.args.place unsure w k p) c.next_step.ensures.step

pub returns-clause-cause : goal.returns-clause-cause
returns-clause-cause c =
    let r = c.args.self.now in
    let ts = c.next_step.new.self.context.trees in
    stop-after c.next_step.result (λ s same h. subst (λ T. IsRoundStop ts r T s) (sym same) h) c.next_step.ensures.stopped c.next_step.ensures.cause

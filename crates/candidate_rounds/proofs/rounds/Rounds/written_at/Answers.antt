use Rattle.std.proofs.Common.{◌≡◌, ◌<◌, Some, length, slice_get, sym, ◌∙◌, ap, subst}
use Rattle.candidate_rounds.specs.Evaluators.Known.{Evaluator, table_of}
use Rattle.candidate_rounds.specs.Table.Running.{IsRoundStop, IsWrittenFor, PutsOffOneAtMost, StaysBesideTable, computing}
use Rattle.candidate_rounds.proofs.Stops.ResponseStops.{passed-on}
use Rattle.candidate_rounds.proofs.Table.Running.{stays-refl, verdict-slot}
use Rattle.rounds_judge.specs.Table.Verdicts.{is_final}
use Rattle.candidate_rounds.proofs.rounds.Rounds.written_at.Goals as goal

pub returns-then-is_final_at-clause-stays : goal.returns-then-is_final_at-clause-stays
returns-then-is_final_at-clause-stays c = stays-refl c.args.self.now

pub returns-then-is_final_at-clause-written : goal.returns-then-is_final_at-clause-written
returns-then-is_final_at-clause-written c = λ e g. ap is_final (sym (verdict-slot (table_of c.args.self.now) c.args.place e g)) ∙ (sym c.is_final_at.ensures ∙ c.if-is_final_at.true)

pub computed-requires : goal.computed-requires
computed-requires c = subst (λ (x : Evaluator). c.args.place < length x.goals.table) (sym c.set_reader.ensures) c.requires

pub returns-in_err-computed-clause-stays : goal.returns-in_err-computed-clause-stays
returns-in_err-computed-clause-stays c = subst (λ (x : Evaluator). StaysBesideTable x c.computed.new.self) c.set_reader.ensures c.computed.ensures.stays

pub returns-in_err-computed-clause-table : goal.returns-in_err-computed-clause-table
returns-in_err-computed-clause-table c = subst (λ (x : Evaluator). table_of c.computed.new.self ≡ table_of x) c.set_reader.ensures c.computed.ensures.table

pub returns-in_err-computed-clause-once : goal.returns-in_err-computed-clause-once
returns-in_err-computed-clause-once c = subst (λ (x : Evaluator). PutsOffOneAtMost x c.computed.new.self) c.set_reader.ensures c.computed.ensures.once

pub returns-in_err-computed-clause-cause : goal.returns-in_err-computed-clause-cause
returns-in_err-computed-clause-cause c =
    let r = c.args.self.now in
    let ts = c.computed.new.self.context.trees in
    let stop = c.in_err-computed.field-0.0 in
    passed-on (IsRoundStop ts r (table_of r)) c.from_residual.result stop c.from_residual.ensures.1
    (subst (λ (x : Evaluator). IsRoundStop ts x (table_of x) stop) c.set_reader.ensures c.in_err-computed.ensures.cause)

pub returns-clause-stays : goal.returns-clause-stays
returns-clause-stays c = subst (λ (x : Evaluator). StaysBesideTable x c.computed.new.self) c.set_reader.ensures c.computed.ensures.stays

pub returns-clause-table : goal.returns-clause-table
returns-clause-table c = subst (λ (x : Evaluator). table_of c.computed.new.self ≡ table_of x) c.set_reader.ensures c.computed.ensures.table

pub returns-clause-once : goal.returns-clause-once
returns-clause-once c = subst (λ (x : Evaluator). PutsOffOneAtMost x c.computed.new.self) c.set_reader.ensures c.computed.ensures.once

pub returns-clause-written : goal.returns-clause-written
returns-clause-written c = λ e g. (
  ap is_final (sym (verdict-slot (table_of c.args.self.now) c.args.place e g)) ∙ (sym c.is_final_at.ensures ∙ c.if-is_final_at.false),
  subst (λ (x : Evaluator). IsWrittenFor c.computed.new.self.context.trees (computing x) (table_of x) e.key c.in_ok-computed.field-0) c.set_reader.ensures
      (c.in_ok-computed.ensures.written e (subst (λ (x : Evaluator). slice_get (table_of x) c.args.place ≡ Some e) (sym c.set_reader.ensures) g)),
)

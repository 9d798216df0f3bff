use Rattle.std.proofs.Common.{slice_get, ◌∙◌, ap}
use Rattle.candidate_rounds.specs.Evaluators.Known.{table_of}
use Rattle.candidate_rounds.specs.Table.Running.{IsRoundStop, round_looking, told}
use Rattle.candidate_rounds.proofs.Stops.ResponseStops.{passed-on}
use Rattle.candidate_rounds.proofs.Table.Running.{place-stopped}
use Rattle.candidate_rounds.proofs.rounds.Rounds.computed.Goals as goal

pub returns-in_err-answer-clause-cause : goal.returns-in_err-answer-clause-cause
returns-in_err-answer-clause-cause c =
    let r = c.args.self.now in
    let ts = c.compute.new.self.context.trees in
    passed-on (IsRoundStop ts r (table_of r)) c.from_residual.result c.in_err-answer.field-0.0 c.from_residual.ensures.1 (place-stopped r ts c.args.place c.in_err-answer.field-0.0 c.requires c.in_err-answer.ensures.cause)

pub may_be_read-requires-clause-verdict : goal.may_be_read-requires-clause-verdict
may_be_read-requires-clause-verdict c = c.verdict_of-verdict.ensures.sort c.compute.new.self.context.trees c.in_ok-answer.ensures.sort

pub returns-in_err-is_readable-clause-cause : goal.returns-in_err-is_readable-clause-cause
returns-in_err-is_readable-clause-cause c =
    let r = c.args.self.now in
    passed-on (IsRoundStop c.compute.new.self.context.trees r (table_of r)) c.from_residual-in_err-is_readable.result c.in_err-is_readable.field-0.0 c.from_residual-in_err-is_readable.ensures.1 (round_looking c.in_err-is_readable.ensures.cause)

pub returns-clause-written : goal.returns-clause-written
returns-clause-written c = λ e g.
    let ts = c.compute.new.self.context.trees in
    record {
      answer = told ts c.in_ok-answer.answer;
      computed = c.in_ok-answer.ensures.answer e g;
      says = c.verdict_of-verdict.ensures.is ts;
      sort = c.verdict_of-verdict.ensures.sort ts c.in_ok-answer.ensures.sort;
      readable = c.in_ok-is_readable.ensures.is e (ap (λ T. slice_get T c.args.place) c.in_ok-answer.ensures.table ∙ g);
    }

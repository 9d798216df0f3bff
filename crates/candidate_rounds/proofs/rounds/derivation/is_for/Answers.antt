use Rattle.std.proofs.Common.{sym, ◌∙◌}
use Rattle.candidate_rounds.proofs.Table.Equal.{passed-or-not}
use Rattle.candidate_rounds.proofs.Table.Needed.{copy-of-numbers, numbers-of-copy}
use Rattle.candidate_rounds.proofs.rounds.derivation.is_for.Goals as goal

pub returns-then-eq-clause-yes : goal.returns-then-eq-clause-yes
returns-then-eq-clause-yes c = λ t. record { key = copy-of-numbers c.args.key.now c.args.step.now.key (sym c.eq.ensures ∙ c.if-eq.true); response = c.is_same_response.ensures.same t }

pub returns-then-eq-clause-other : goal.returns-then-eq-clause-other
returns-then-eq-clause-other c = λ f h. c.is_same_response.ensures.other f h.response

pub returns-else-eq-clause-other : goal.returns-else-eq-clause-other
returns-else-eq-clause-other c = λ _ h. passed-or-not c.eq.result (c.eq.ensures ∙ numbers-of-copy c.args.key.now c.args.step.now.key h.key) c.if-eq.false

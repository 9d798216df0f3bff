use Rattle.std.proofs.Common.{sym, ◌∙◌}
use Rattle.candidate_eval.proofs.Outcomes.Merging.{answer_out, answer_on}
use Rattle.candidate_eval.proofs.eval.response.all_answer.Goals as goal

pub returns-then-not-same_response : goal.returns-then-not-same_response
returns-then-not-same_response c =
    sym (c.loop-candidate.invariant ∙ answer_out _ _ _ _ _ c.loop-candidate-test.true c.candidate-item.is (sym c.same_response.ensures ∙ c.if-not-same_response.true))

pub loop-candidate-preserved : goal.loop-candidate-preserved
loop-candidate-preserved c =
    c.loop-candidate.invariant ∙ answer_on _ _ _ _ _ c.loop-candidate-test.true c.candidate-item.is (sym c.same_response.ensures ∙ c.if-not-same_response.false)

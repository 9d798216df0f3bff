use Rattle.candidate_eval.proofs.Knowability.CallLaws.{limit-read}
use Rattle.candidate_eval.proofs.coherence.knowable.Goals as goal

pub returns-clause-calls : goal.returns-clause-calls
returns-clause-calls g c = rw (limit-read _ _ _ c.limits-levels.ensures.is c.cx.ensures) at c.knowable_within.ensures.calls

pub returns-clause-answer : goal.returns-clause-answer
returns-clause-answer g c = rw (limit-read _ _ _ c.limits-levels.ensures.is c.cx.ensures) at c.knowable_within.ensures.answer

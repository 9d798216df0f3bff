use Rattle.candidate_eval.proofs.Outcomes.Merging.{others_there}
use Rattle.candidate_eval.proofs.eval.response.try_merge_candidates.Goals as goal

pub all_answer-requires-clause-candidates : goal.all_answer-requires-clause-candidates
all_answer-requires-clause-candidates g c = rw c.cx-cx.ensures (others_there _ _ _ _ c.requires c.in-Some-split_first.ensures.cases.0)

use Rattle.candidate_eval.proofs.Outcomes.Equal.{row_says}
use Rattle.candidate_eval.proofs.eval.response.same_regions.Goals as goal

pub returns : goal.returns
returns c = rw (← c.as_slice.ensures.value, ← c.as_slice-2.ensures.value) (row_says _ _ _ c.same_clauses.ensures)

use Rattle.candidate_rounds.proofs.Table.Needed.{MarkedDown}
use Rattle.candidate_rounds.proofs.rounds.derivation.marks_of.Given as goal

abbrev pub invariant-loop-back : goal.invariant-loop-back
invariant-loop-back l = MarkedDown l.steps l.marks.items l.back

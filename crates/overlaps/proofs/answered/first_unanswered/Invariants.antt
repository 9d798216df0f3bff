use Rattle.overlaps.proofs.PureFolder.{AnsweredSoFar}
use Rattle.overlaps.proofs.answered.first_unanswered.Given as goal

-- those before the number hold
abbrev pub invariant-loop-number : goal.invariant-loop-number
invariant-loop-number l = AnsweredSoFar l.fn.rounds l.rounds l.fn.env l.fn.locals l.fn.clauses l.number

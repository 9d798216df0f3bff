use Rattle.overlaps.proofs.OpenClauses.{ListedSoFar}
use Rattle.overlaps.proofs.reasons.add_open_clauses.Given as goal

-- of the clauses before the number those that are open are listed
abbrev pub invariant-loop-number : goal.invariant-loop-number
invariant-loop-number l = ListedSoFar l.fn.rounds l.rounds l.fn.env l.fn.of l.fn.list.items l.number l.list.items

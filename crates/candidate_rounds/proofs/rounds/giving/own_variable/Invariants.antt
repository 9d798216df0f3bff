use Rattle.candidate_rounds.proofs.Table.Naming.{LookedAt}
use Rattle.candidate_rounds.proofs.rounds.giving.own_variable.Given as goal

abbrev pub invariant-loop-i : goal.invariant-loop-i
invariant-loop-i l = LookedAt l.cx.trees l.variables l.numbers l.values l.fn.place l.fn.left_open l.i

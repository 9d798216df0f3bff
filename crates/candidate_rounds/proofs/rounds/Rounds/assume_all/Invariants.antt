use Rattle.candidate_rounds.proofs.Table.Sources.{NamedSoFar}
use Rattle.candidate_rounds.proofs.rounds.Rounds.assume_all.Given as goal

abbrev pub invariant-loop-i : goal.invariant-loop-i
invariant-loop-i l = NamedSoFar l.fn.self l.self l.steps l.nested l.i

use Rattle.candidate_rounds.proofs.Table.Needed.{NoneBefore}
use Rattle.candidate_rounds.proofs.rounds.derivation.up_to.Given as goal

abbrev pub invariant-loop-i : goal.invariant-loop-i
invariant-loop-i l = NoneBefore l.steps l.key l.response l.i

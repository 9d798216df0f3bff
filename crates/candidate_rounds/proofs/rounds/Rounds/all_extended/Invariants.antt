use Rattle.candidate_rounds.proofs.Table.Steps.{Searching}
use Rattle.candidate_rounds.proofs.rounds.Rounds.all_extended.Given as goal

abbrev pub invariant-loop-place : goal.invariant-loop-place
invariant-loop-place l = Searching l.fn.self l.self l.steps.items

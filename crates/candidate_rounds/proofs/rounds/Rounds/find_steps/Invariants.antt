use Rattle.candidate_rounds.proofs.Table.Steps.{Searching}
use Rattle.candidate_rounds.proofs.rounds.Rounds.find_steps.Given as goal

abbrev pub invariant-loop-pass : goal.invariant-loop-pass
invariant-loop-pass l = Searching l.fn.self l.self l.steps.items

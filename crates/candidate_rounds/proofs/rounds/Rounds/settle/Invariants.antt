use Rattle.candidate_rounds.proofs.Stops.SettlingStops.{PassesOn}
use Rattle.candidate_rounds.proofs.rounds.Rounds.settle.Given as goal

abbrev pub invariant-loop-pass : goal.invariant-loop-pass
invariant-loop-pass l = PassesOn l.fn.self l.self l.most l._pass

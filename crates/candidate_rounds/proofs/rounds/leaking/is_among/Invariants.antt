use Rattle.std.specs.Prelude.{take}
use Rattle.candidate_rounds.specs.Evaluators.Leaking.{IsAmong}
use Rattle.candidate_rounds.proofs.rounds.leaking.is_among.Given as goal

abbrev pub invariant-loop-i : goal.invariant-loop-i
invariant-loop-i l = IsAmong (take l.i l.fn.list) l.fn.region → ⊥

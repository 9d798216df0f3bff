use Rattle.std.specs.Prelude.{take}
use Rattle.candidate_rounds.specs.declared.rounds.leaking.RegionOutlives.{RegionOutlives}
use Rattle.candidate_rounds.specs.Evaluators.Leaking.{IsAmong}
use Rattle.candidate_rounds.specs.Table.Goals.{Each}
use Rattle.candidate_rounds.proofs.rounds.leaking.first_said_of.Given as goal

abbrev pub invariant-loop-place : goal.invariant-loop-place
invariant-loop-place l = Each (λ (x : RegionOutlives). IsAmong l.fn.list x.longer → ⊥) (take l.place l.fn.said)

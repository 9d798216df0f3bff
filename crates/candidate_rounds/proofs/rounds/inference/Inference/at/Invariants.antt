use Rattle.std.proofs.Common.{◌≡◌, map, take}
use Rattle.candidate_rounds.specs.Calls.Starting.{root_variable}
use Rattle.candidate_rounds.proofs.rounds.inference.Inference.at.Given as goal

abbrev pub invariant-loop-i : goal.invariant-loop-i
invariant-loop-i l = l.list.items ≡ map root_variable (take l.i l.variables)

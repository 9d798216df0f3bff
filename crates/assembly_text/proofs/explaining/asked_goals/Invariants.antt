use Rattle.std.specs.Prelude.{All}
use Rattle.assembly_text.specs.Explaining.{IsAsked}
use Rattle.assembly_text.proofs.explaining.asked_goals.Given as goal

-- the numbers of those before are of the context
abbrev pub invariant-loop-place : goal.invariant-loop-place
invariant-loop-place l = All (IsAsked l.rounds.context.trees) l.goals.items

use Rattle.std.proofs.Common.{◌≡◌, drop}
use Rattle.candidate_assembly.specs.Calls.Upcasting.{lacks_autos}
use Rattle.candidate_assembly.proofs.trait_goals.upcasting.lacks_auto_traits.Given as goal

-- none of the bounds before does
abbrev pub invariant-loop-target : goal.invariant-loop-target
invariant-loop-target l = lacks_autos l.cx.trees l.sources l.targets ≡ lacks_autos l.cx.trees l.sources (drop l.target-index l.targets)

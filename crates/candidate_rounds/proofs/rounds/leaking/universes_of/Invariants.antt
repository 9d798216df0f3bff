use Rattle.std.specs.Prelude.{◌≡◌, map, take}
use Rattle.candidate_rounds.specs.declared.rounds.inference.Entry.{Entry}
use Rattle.candidate_rounds.proofs.rounds.leaking.universes_of.Given as goal

abbrev pub invariant-loop-i : goal.invariant-loop-i
invariant-loop-i l = l.list.items ≡ map (λ (e : Entry). e.universe) (take l.i l.fn.entries)

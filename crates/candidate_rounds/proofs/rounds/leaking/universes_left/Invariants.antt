use Rattle.std.specs.Prelude.{◌≡◌, map, take}
use Rattle.candidate_eval.specs.declared.eval.variable.CanonicalVar.{CanonicalVar}
use Rattle.candidate_rounds.proofs.rounds.leaking.universes_left.Given as goal

abbrev pub invariant-loop-i : goal.invariant-loop-i
invariant-loop-i l = l.list.items ≡ map (λ (x : CanonicalVar). x.universe) (take l.i l.fn.variables)

use Rattle.std.proofs.Common.{◌≡◌}
use Rattle.assembly_text.specs.Checking.{IsDeclaredAlone, Stays}
use Rattle.assembly_text.proofs.asking.Asking.push_pairs_of.Given as goal

-- nothing is left of what was asked but pairs
abbrev pub invariant-loop-place : goal.invariant-loop-place
invariant-loop-place l = IsDeclaredAlone l.asking.scope.maker × Stays l.fn.self l.asking × (l.asking.answer ≡ l.fn.self.answer)

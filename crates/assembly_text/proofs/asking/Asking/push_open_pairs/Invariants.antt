use Rattle.std.proofs.Common.{◌≡◌}
use Rattle.assembly_text.specs.Checking.{IsDeclaredAlone, Stays}
use Rattle.assembly_text.proofs.asking.Asking.push_open_pairs.Given as goal

-- nothing is left of what was asked but pairs
abbrev pub invariant-loop-number : goal.invariant-loop-number
invariant-loop-number l = IsDeclaredAlone l.asking.scope.maker × Stays l.fn.self l.asking × (l.asking.answer ≡ l.fn.self.answer)

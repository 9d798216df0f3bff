use Rattle.assembly_text.specs.Checking.{AddsOfPairs, IsDeclaredAlone, Stays}
use Rattle.assembly_text.proofs.asking.Asking.with_pairs.Given as goal

-- what was asked before has added what is said of so many pairs, and left nothing but that
abbrev pub invariant-loop-place : goal.invariant-loop-place
invariant-loop-place l = IsDeclaredAlone l.asking.scope.maker × Stays l.fn.self l.asking × AddsOfPairs l.fn.effort l.fn.first l.fn.later l.place l.fn.self l.asking

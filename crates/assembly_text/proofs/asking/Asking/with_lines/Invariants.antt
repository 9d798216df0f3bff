use Rattle.assembly_text.specs.Checking.{AddsOfLines, IsDeclaredAlone, Stays}
use Rattle.assembly_text.proofs.asking.Asking.with_lines.Given as goal

-- what was asked before has added what is said of so many lines, and left nothing but that
abbrev pub invariant-loop-place : goal.invariant-loop-place
invariant-loop-place l = IsDeclaredAlone l.asking.scope.maker × Stays l.fn.self l.asking × AddsOfLines l.fn.of l.place l.fn.self l.asking

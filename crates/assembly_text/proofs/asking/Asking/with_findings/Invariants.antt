use Rattle.assembly_text.specs.Checking.{AddsOfImpls, IsDeclaredAlone, Stays}
use Rattle.assembly_text.proofs.asking.Asking.with_findings.Given as goal

-- what was asked before has added what is said of so many impls, and left nothing but that
abbrev pub invariant-loop-number : goal.invariant-loop-number
invariant-loop-number l = IsDeclaredAlone l.asking.scope.maker × Stays l.fn.self l.asking × AddsOfImpls l.fn.effort l.impls l.number l.fn.self l.asking

use Rattle.std.proofs.Common.{◌≡◌, []}
use Rattle.std.specs.Prelude.{string_bytes}
use Rattle.assembly_text.specs.Printing.{AddsWord}
use Rattle.assembly_text.specs.Solving.{AreValues}
use Rattle.assembly_text.proofs.asking.Asking.print_values.Given as goal

-- the types are still those of the context, and some words are added
abbrev pub invariant-loop-variable : goal.invariant-loop-variable
invariant-loop-variable l =
    AreValues l.self.scope.maker.trees l.values × (l.self.scope ≡ l.fn.self.scope) × AddsWord [] (string_bytes l.fn.self.answer) (string_bytes l.self.answer)

use Rattle.std.proofs.Common.{List, ℕ, drop, string_bytes}
use Rattle.ir_trees.specs.Syntax.Words.{ListFits, list_forest}
use Rattle.assembly_notation.specs.Spelling.{AddsEach}
use Rattle.assembly_notation.proofs.types.Scope+Cx.print_types.Given as goal

-- with what is added of the arguments that are left, all are
abbrev pub invariant-loop-arg : goal.invariant-loop-arg
invariant-loop-arg l =
    let ts = l.self.maker.trees in
    ListFits ts l.arg-items
    × ((new : List ℕ) → AddsEach (list_forest ts (drop l.arg-index l.arg-items)) (string_bytes l.text) new → AddsEach (list_forest ts l.arg-items) (string_bytes l.fn.text) new)

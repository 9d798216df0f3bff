use Rattle.std.specs.Prelude.{string_bytes}
use Rattle.assembly_text.specs.Reasons.{AddsMore}
use Rattle.assembly_text.proofs.asking.Asking.add_reasons_of_each.Given as goal

-- what was told of pairs stands behind the answer
abbrev pub invariant-loop-place : goal.invariant-loop-place
invariant-loop-place l = AddsMore (string_bytes l.fn.self.answer) (string_bytes l.asking.answer)

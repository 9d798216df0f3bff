use Rattle.std.proofs.Common.{rules}
use Rattle.std.specs.Prelude.{string_bytes}
use Rattle.assembly_text.specs.Reasons.{AddsMore}
use Rattle.assembly_text.proofs.Adding.{more-then, nothing-more}
use Rattle.assembly_text.proofs.asking.Asking.add_reasons_of_each.Goals as goal

pub loop-place-init : goal.loop-place-init
loop-place-init c = nothing-more (string_bytes c.args.self.answer)

pub loop-place-preserved : goal.loop-place-preserved
loop-place-preserved c =
    let last = c.add_reasons_of_pair-asked.result.0 in
    let more : AddsMore (string_bytes c.loop-place.asking.answer) (string_bytes last.answer) = search rules in
    more-then (string_bytes c.args.self.answer) (string_bytes c.loop-place.asking.answer) (string_bytes last.answer) c.loop-place.invariant more

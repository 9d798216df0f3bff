use Rattle.std.proofs.Common.{OnOk, subst, ◌∙◌}
use Rattle.std.specs.Prelude.{string_bytes}
use Rattle.assembly_text.specs.Reasons.{AddsMore}
use Rattle.assembly_text.proofs.asking.Asking.add_reasons.Goals as goal

pub returns : goal.returns
returns c =
    let last = c.print_reason-made.new.self in
    subst (λ a. OnOk c.print_reason-made.result (AddsMore (string_bytes a) (string_bytes last.answer))) (c.reasoned-asking.ensures.answer ∙ c.reason_of-asking.ensures.answer) c.print_reason-made.ensures

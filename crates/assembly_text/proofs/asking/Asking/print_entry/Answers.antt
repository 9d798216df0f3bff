use Rattle.std.proofs.Common.{◌∙◌, ◌++◌, ap}
use Rattle.std.specs.Prelude.{string_bytes}
use Rattle.assembly_text.proofs.Checked.{entry-added}
use Rattle.assembly_text.proofs.asking.Asking.print_entry.Goals as goal

pub returns-clause-printed : goal.returns-clause-printed
returns-clause-printed c =
    entry-added _ _ _ _ c.in_ok-print_after.ensures.printed (c.in_ok-push_str.ensures.bytes ∙ ap (λ w. string_bytes c.print_after.new.self.answer ++ w) c.word_of_place.ensures)

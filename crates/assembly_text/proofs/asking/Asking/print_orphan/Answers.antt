use Rattle.std.proofs.Common.{◌∙◌, Ok, ap}
use Rattle.assembly_text.proofs.Checked.{adds-error, adds-ok}
use Rattle.assembly_text.proofs.asking.Asking.print_orphan.Goals as goal

pub returns-in_ok-push_str-in-Ok-Ok-clause-printed : goal.returns-in_ok-push_str-in-Ok-Ok-clause-printed
returns-in_ok-push_str-in-Ok-Ok-clause-printed c = adds-ok _ _ _ _ _ (c.in-Ok-Ok.is ∙ ap Ok c.in-Ok-Ok.field-0-is) c.in_ok-push_str-in-Ok-Ok.ensures.bytes

pub returns-in_ok-print_orphan_err-in-Ok-Err-clause-printed : goal.returns-in_ok-print_orphan_err-in-Ok-Err-clause-printed
returns-in_ok-print_orphan_err-in-Ok-Err-clause-printed c = adds-error _ _ _ _ _ (c.in-Ok-Err.is ∙ ap Ok c.in-Ok-Err.field-0-is) c.in_ok-print_orphan_err-in-Ok-Err.ensures.printed

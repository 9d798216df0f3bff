use Rattle.assembly_text.proofs.Checked.{adds-local-if, adds-none}
use Rattle.assembly_text.proofs.asking.Asking.print_local.Goals as goal

pub returns-in-Some-clause-printed : goal.returns-in-Some-clause-printed
returns-in-Some-clause-printed c = adds-local-if c.print_after.result _ c.args.local _ _ c.in-Some.is c.print_after.ensures.printed

pub returns-in_ok-push_str-in-None-clause-printed : goal.returns-in_ok-push_str-in-None-clause-printed
returns-in_ok-push_str-in-None-clause-printed c = adds-none c.args.local _ _ c.in-None.is c.in_ok-push_str-in-None.ensures.bytes

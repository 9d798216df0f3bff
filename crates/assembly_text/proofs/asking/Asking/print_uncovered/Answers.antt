use Rattle.assembly_text.proofs.Checked.{adds-uncovered}
use Rattle.assembly_text.proofs.asking.Asking.print_uncovered.Goals as goal

pub returns-clause-printed : goal.returns-clause-printed
returns-clause-printed c = adds-uncovered c.args.self.now.scope.maker.trees c.args.found.now _ _ _ _ c.in_ok-print_after.ensures.printed c.in_ok-print_local.ensures.printed c.in_ok-push_str.ensures.bytes

use Rattle.std.proofs.Common.{rules}
use Rattle.assembly_text.specs.Checking.{AddsOfAll}
use Rattle.assembly_text.proofs.Finding.{says-all}
use Rattle.assembly_text.proofs.asking.Asking.answered_with_findings.Goals as goal

pub returns : goal.returns
returns c =
    let found : AddsOfAll c.args.effort c.args.self c.with_findings-asking.result.0 = search rules in
    says-all c.args.effort c.args.self c.with_findings-asking.result.0 c.print_none-made.new.self c.print_none-made.result c.requires.nothing found c.print_none-made.ensures

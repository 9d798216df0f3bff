use Rattle.std.proofs.Common.{Result, OnOk, subst}
use Rattle.std.specs.Prelude.{string_bytes}
use Rattle.ir_trees.specs.declared.ir.stop.Stop.{Stop}
use Rattle.assembly_text.specs.Reasons.{AddsMore}
use Rattle.assembly_text.proofs.Adding.{more-made}
use Rattle.assembly_text.proofs.asking.Asking.add_reasons_of_pair.Goals as goal

pub returns-in-Ok : goal.returns-in-Ok
returns-in-Ok c =
    let first = c.forget_nodes.new.self in
    let told = c.print_heading-made.new.self in
    let last = c.add_reasons.result.0 in
    let here : AddsMore (string_bytes first.answer) (string_bytes told.answer) =
    subst (λ (r : Result (Unit {0}) Stop). OnOk r (AddsMore (string_bytes first.answer) (string_bytes told.answer))) c.in-Ok.is c.print_heading-made.ensures in
    let headed : AddsMore (string_bytes c.args.self.answer) (string_bytes told.answer) =
    subst (λ a. AddsMore (string_bytes a) (string_bytes told.answer)) c.forget_nodes.ensures.answer here in
    more-made c.add_reasons.result.1 (string_bytes c.args.self.answer) (string_bytes told.answer) (string_bytes last.answer) headed c.add_reasons.ensures

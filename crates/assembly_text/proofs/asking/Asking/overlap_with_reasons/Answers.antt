use Rattle.std.proofs.Common.{Result, OnOk, subst}
use Rattle.std.specs.Prelude.{string_bytes}
use Rattle.ir_trees.specs.declared.ir.stop.Stop.{Stop}
use Rattle.assembly_text.specs.Negating.{AddsOverlap}
use Rattle.assembly_text.proofs.Negating.{on-ok-weaker}
use Rattle.assembly_text.proofs.asking.Asking.overlap_with_reasons.Goals as goal

pub returns-in-Ok : goal.returns-in-Ok
returns-in-Ok c =
    let first = c.args.self in
    let mid = c.answered_with_overlap-asking.result.0 in
    let said = subst (λ (r : Result (Unit {0}) Stop). OnOk r (AddsOverlap first.scope.maker first.given c.args.first c.args.second c.args.effort mid.scope.maker (string_bytes first.answer) (string_bytes mid.answer))) c.in-Ok.is
    c.answered_with_overlap-asking.ensures in
    on-ok-weaker c.add_reasons.result.1 (λ h. record { mid = mid.scope.maker; said = string_bytes mid.answer; says = said; more = h }) c.add_reasons.ensures

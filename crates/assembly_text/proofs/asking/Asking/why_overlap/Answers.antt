use Rattle.std.proofs.Common.{◌≡◌, ℕ, List, rules, subst}
use Rattle.std.specs.Prelude.{string_bytes}
use Rattle.ir_trees.specs.Declarations.Context.{Context}
use Rattle.assembly_text.specs.Efforts.{effort_of_line}
use Rattle.assembly_notation.specs.declared.given.Given.{Given}
use Rattle.assembly_text.specs.Reasons.{AddsOverlapAndMore}
use Rattle.assembly_text.proofs.Negating.{on-ok-weaker}
use Rattle.candidate_rounds.specs.declared.rounds.effort.Effort.{Effort}
use Rattle.assembly_text.proofs.asking.Asking.why_overlap.Goals as goal

pub returns-in-Ok : goal.returns-in-Ok
returns-in-Ok c =
    let last = c.overlap_with_reasons-asking.result.0 in
    let a = c.in-Ok.first in
    let b = c.in-Ok.second in
    let named : c.in-Ok.effort ≡ effort_of_line c.args.words.rest.now = search rules in
    let x = c.forget.ensures.context in
    let y = c.forget.ensures.given in
    let z = c.forget.ensures.answer in
    on-ok-weaker c.overlap_with_reasons-asking.result.1
    (λ h. record {
      first = a;
      second = b;
      adds = subst (λ (q : Context × Given × Effort × List ℕ). AddsOverlapAndMore q.0 q.1 a b q.2 q.3 (string_bytes last.answer)) (λ i. (x i, y i, named i, z i)) h;
    })
    c.overlap_with_reasons-asking.ensures

use Rattle.std.proofs.Common.{◌≡◌, ℕ, List, [], OnOk, ap, subst, sym, ◌∙◌}
use Rattle.std.specs.Prelude.{string_bytes}
use Rattle.ir_trees.specs.Declarations.Context.{Context, Grows}
use Rattle.assembly_text.specs.Asking.{AddsSomeKnown}
use Rattle.assembly_text.proofs.Answered.{known-printed}
use Rattle.assembly_text.proofs.asking.Asking.knowable.Goals as goal

pub returns : goal.returns
returns c =
    let first = c.forget.new.self in
    let mid = c.known-known.new.self in
    let last = c.print_known.new.self in
    let read = c.last_trait_ref.new.self in
    let declared = c.forget.ensures.context in
    let nothing : string_bytes mid.answer ≡ [] = ap string_bytes (c.known-known.ensures.printed ∙ c.in_ok-trait_ref.ensures.answer) ∙ c.forget.ensures.answer in
    subst (λ (x : Context × List ℕ). OnOk c.print_known.result (AddsSomeKnown x.0 last.scope.maker x.1 (string_bytes last.answer))) (λ i. (declared i, nothing i))
    (known-printed c.known-known.result c.print_known.result first.scope.maker read.scope.maker last.scope.maker c.in_ok-trait_ref.trait_ref (string_bytes mid.answer) (string_bytes last.answer)
    c.in_ok-trait_ref.ensures.grows (subst (Grows read.scope.maker) (sym (ap (λ s. s.maker) c.print_known.ensures.scope)) c.known-known.ensures.grows) c.known-known.ensures.answer c.print_known.ensures.printed c.print_known.ensures.stopped)

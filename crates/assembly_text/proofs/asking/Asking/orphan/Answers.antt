use Rattle.std.proofs.Common.{◌≡◌, ℕ, List, [], OnOk, ap, subst, sym, ◌∙◌}
use Rattle.std.specs.Prelude.{string_bytes}
use Rattle.ir_trees.specs.Declarations.Context.{Context, Grows}
use Rattle.assembly_text.specs.Asking.{AddsSomeCheck}
use Rattle.assembly_text.proofs.Checked.{check-printed}
use Rattle.assembly_text.proofs.asking.Asking.orphan.Goals as goal

pub returns : goal.returns
returns c =
    let first = c.forget.new.self in
    let mid = c.checked-checked.new.self in
    let last = c.print_orphan.new.self in
    let read = c.last_trait_ref.new.self in
    let declared = c.forget.ensures.context in
    let nothing : string_bytes mid.answer ≡ [] = ap string_bytes (c.checked-checked.ensures.printed ∙ c.in_ok-trait_ref.ensures.answer) ∙ c.forget.ensures.answer in
    subst (λ (x : Context × List ℕ). OnOk c.print_orphan.result (AddsSomeCheck x.0 last.scope.maker x.1 (string_bytes last.answer))) (λ i. (declared i, nothing i))
    (check-printed c.checked-checked.result c.print_orphan.result first.scope.maker read.scope.maker last.scope.maker mid.scope.maker.trees c.in_ok-in_crate.in_crate c.in_ok-trait_ref.trait_ref (string_bytes mid.answer) (string_bytes last.answer)
    c.in_ok-trait_ref.ensures.grows (subst (Grows read.scope.maker) (sym (ap (λ s. s.maker) c.print_orphan.ensures.scope)) c.checked-checked.ensures.grows) c.checked-checked.ensures.answer c.print_orphan.ensures.printed)

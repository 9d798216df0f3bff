use Rattle.std.proofs.Common.{◌∙◌, OnOk, subst}
use Rattle.std.specs.Prelude.{string_bytes}
use Rattle.assembly_text.specs.Reasons.{AddsMore}
use Rattle.assembly_text.proofs.Finding.{alone-again}
use Rattle.assembly_text.proofs.asking.Asking.add_reasons_of_pairs.Goals as goal

pub push_open_pairs-asking-requires-clause-declared : goal.push_open_pairs-asking-requires-clause-declared
push_open_pairs-asking-requires-clause-declared c = alone-again _ _ c.forget_nodes.ensures.context

pub returns-in-Ok : goal.returns-in-Ok
returns-in-Ok c =
    let last = c.add_reasons_of_each.result.0 in
    subst (λ a. OnOk c.add_reasons_of_each.result.1 (AddsMore (string_bytes a) (string_bytes last.answer))) (c.push_open_pairs-asking.ensures.answer ∙ c.forget_nodes.ensures.answer) c.add_reasons_of_each.ensures

use Rattle.std.proofs.Common.{ℕ, List, OnOk, subst}
use Rattle.std.specs.Prelude.{string_bytes}
use Rattle.ir_trees.specs.Syntax.Words.{args_forest}
use Rattle.assembly_text.specs.Overlapping.{AddsAfter, AddsSpelledAfter}
use Rattle.assembly_text.proofs.asking.Asking.print_instance.Goals as goal

pub returns-clause-printed : goal.returns-clause-printed
returns-clause-printed c =
    let old = string_bytes c.args.self.now.answer in
    let new = string_bytes c.print_reference_after.new.self.answer in
    subst (λ (t : List ℕ). OnOk c.print_reference_after.result (AddsAfter t old new)) c.word_before_instance.ensures c.print_reference_after.ensures.printed

pub returns-clause-spelled : goal.returns-clause-spelled
returns-clause-spelled c =
    let old = string_bytes c.args.self.now.answer in
    let new = string_bytes c.print_reference_after.new.self.answer in
    let ts = args_forest c.args.self.now.scope.maker.trees c.args.instance.trait_ref.args in
    subst (λ (t : List ℕ). OnOk c.print_reference_after.result (AddsSpelledAfter t ts old new)) c.word_before_instance.ensures c.print_reference_after.ensures.spelled

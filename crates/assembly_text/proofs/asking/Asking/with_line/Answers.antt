use Rattle.std.proofs.Common.{◌∙◌, ℕ, List, OnOk, ap, subst, sym}
use Rattle.std.specs.Prelude.{string_bytes}
use Rattle.ir_trees.specs.Declarations.Context.{Grows}
use Rattle.assembly_notation.specs.declared.names.NamedImpl.{NamedImpl}
use Rattle.assembly_text.specs.Checking.{AddsTest}
use Rattle.assembly_text.proofs.Finding.{adds-line, adds-same, alone-again, stays-forgot}
use Rattle.assembly_text.proofs.asking.Asking.with_line.Goals as goal

pub returns-clause-declared : goal.returns-clause-declared
returns-clause-declared c = alone-again _ _ c.forget_nodes.ensures.context

pub returns-clause-stays : goal.returns-clause-stays
returns-clause-stays c =
    let asked = c.tested-asking.ensures in
    let said = c.print_test-made.ensures in
    stays-forgot c.args.self c.print_test-made.new.self c.forget_nodes.new.self c.requires.declared
    (record { grows = subst (Grows c.args.self.scope.maker) (sym (ap (λ s. s.maker) said.scope)) asked.grows; names = ap (λ s. s.names) said.scope ∙ asked.names; given = said.given ∙ asked.given })
    c.forget_nodes.ensures.context c.forget_nodes.ensures.names c.forget_nodes.ensures.given

pub returns-clause-found : goal.returns-clause-found
returns-clause-found c =
    let first = c.args.self in
    let asked = c.tested-asking.ensures in
    let r = c.tested-asking.result.1 in
    let new = string_bytes c.print_test-made.new.self.answer in
    adds-same _ c.print_test-made.result (string_bytes first.answer) c.print_test-made.new.self c.forget_nodes.new.self c.forget_nodes.ensures.answer
    (adds-line first.scope.names first.given first.scope.maker c.tested-asking.result.0.scope.maker c.args.special c.args.general r c.print_test-made.result (string_bytes first.answer) new asked.is asked.stopped
    (subst (λ (x : List ℕ × List NamedImpl). OnOk c.print_test-made.result (AddsTest x.1 c.args.special r x.0 new)) (λ i. (string_bytes (asked.answer i), (asked.names i).impls.items)) c.print_test-made.ensures.printed))

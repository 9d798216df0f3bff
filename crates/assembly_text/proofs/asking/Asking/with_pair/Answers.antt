use Rattle.std.proofs.Common.{◌∙◌, ℕ, List, [], OnOk, ap, refl, subst, sym}
use Rattle.std.proofs.lemmas.List.{append-nil}
use Rattle.ir_trees.proofs.Growth.Kept.{grows-refl}
use Rattle.std.specs.Prelude.{string_bytes}
use Rattle.ir_trees.specs.Declarations.Context.{Grows}
use Rattle.assembly_notation.specs.declared.names.NamedImpl.{NamedImpl}
use Rattle.assembly_text.specs.Checking.{AddsFound, of_prelude}
use Rattle.assembly_text.proofs.Finding.{adds-earlier, adds-pair, adds-same, alone-again, stays-forgot}
use Rattle.assembly_text.proofs.asking.Asking.with_pair.Goals as goal

pub returns-then-are_of_prelude-clause-stays : goal.returns-then-are_of_prelude-clause-stays
returns-then-are_of_prelude-clause-stays c = record { grows = grows-refl c.args.self.scope.maker; names = refl; given = refl }

pub returns-then-are_of_prelude-clause-found : goal.returns-then-are_of_prelude-clause-found
returns-then-are_of_prelude-clause-found c = ([], of_prelude (sym c.are_of_prelude.ensures ∙ c.if-are_of_prelude.true), sym (append-nil (string_bytes c.args.self.answer)))

pub returns-clause-declared : goal.returns-clause-declared
returns-clause-declared c = alone-again _ _ c.forget_nodes.ensures.context

pub returns-clause-stays : goal.returns-clause-stays
returns-clause-stays c =
    let asked = c.compare-asking.ensures.stays in
    let said = c.print_pair-made.ensures in
    stays-forgot c.args.self c.print_pair-made.new.self c.forget_nodes.new.self c.requires.declared
    (record { grows = subst (Grows c.args.self.scope.maker) (sym (ap (λ s. s.maker) said.scope)) asked.grows; names = ap (λ s. s.names) said.scope ∙ asked.names; given = said.given ∙ asked.given })
    c.forget_nodes.ensures.context c.forget_nodes.ensures.names c.forget_nodes.ensures.given

pub returns-clause-found : goal.returns-clause-found
returns-clause-found c =
    let first = c.args.self in
    let asked = c.compare-asking.ensures in
    let r = c.compare-asking.result.1 in
    let new = string_bytes c.print_pair-made.new.self.answer in
    adds-same _ c.print_pair-made.result (string_bytes first.answer) c.print_pair-made.new.self c.forget_nodes.new.self c.forget_nodes.ensures.answer
    (adds-pair first.scope.names first.given c.args.effort first.scope.maker c.args.first c.args.second r c.print_pair-made.result (string_bytes first.answer) new asked.found asked.stopped
    (adds-earlier first.scope.maker c.compare-asking.result.0.scope.maker first.scope.names.impls.items c.args.first c.args.second r c.print_pair-made.result (string_bytes first.answer) new asked.stays.grows
    (subst (λ (x : List ℕ × List NamedImpl). OnOk c.print_pair-made.result (AddsFound c.compare-asking.result.0.scope.maker x.1 c.args.first c.args.second r x.0 new)) (λ i. (string_bytes (asked.answer i), (asked.stays.names i).impls.items)) c.print_pair-made.ensures.printed)))

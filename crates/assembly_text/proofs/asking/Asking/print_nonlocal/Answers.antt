use Rattle.std.proofs.Common.{◌∙◌, refl, sym, subst, All}
use Rattle.std.specs.Prelude.{string_bytes}
use Rattle.std.proofs.lemmas.List.{map_more, take_all}
use Rattle.ir_trees.specs.Syntax.Words.{IsTy}
use Rattle.candidate_eval.specs.Knowability.Answers.{entries_of}
use Rattle.assembly_text.proofs.Checked.{EntriesSoFar, entries-end, entry-more, no-entries}
use Rattle.assembly_text.proofs.asking.Asking.print_nonlocal.Goals as goal

pub loop-ty-init : goal.loop-ty-init
loop-ty-init c = (c.requires, refl, no-entries _ _ c.in_ok-push_str.ensures.bytes, refl)

pub loop-ty-preserved : goal.loop-ty-preserved
loop-ty-preserved c =
    let before = c.loop-ty.invariant in
    let es = c.args.entries.now in
    let old = string_bytes c.args.self.now.answer in
    let new = string_bytes c.print_entry.new.self.answer in
    let scope = c.in_ok-print_entry.ensures.scope ∙ before.1 in (
      subst (λ s. All (λ e. IsTy s.maker.trees e.0) es) (sym c.in_ok-print_entry.ensures.scope) before.0,
      scope,
      subst (λ xs. EntriesSoFar xs old new) (sym (map_more _ es c.loop-ty.ty-index _ c.loop-ty-test.true)) (entry-more _ _ old _ new before.2 c.in_ok-print_entry.ensures.printed),
      c.in_ok-print_entry.ensures.given ∙ before.3,
    )

pub returns-clause-printed : goal.returns-clause-printed
returns-clause-printed c =
    let es = c.args.entries.now in
    let before = c.loop-ty.invariant in
    let all = take_all c.loop-ty.ty-index es c.loop-ty-test.false in
    entries-end (entries_of c.args.self.now.scope.maker.trees es) _ _ _ (subst (λ xs. EntriesSoFar (entries_of c.args.self.now.scope.maker.trees xs) (string_bytes c.args.self.now.answer) (string_bytes c.loop-ty.self.answer)) all before.2) c.in_ok-push_str-2.ensures.bytes

pub returns-in_err-print_entry-clause-given : goal.returns-in_err-print_entry-clause-given
returns-in_err-print_entry-clause-given c = c.print_entry.ensures.given ∙ c.loop-ty.invariant.3

pub returns-in_err-push_str-2-clause-given : goal.returns-in_err-push_str-2-clause-given
returns-in_err-push_str-2-clause-given c = c.loop-ty.invariant.3

pub returns-clause-given : goal.returns-clause-given
returns-clause-given c = c.loop-ty.invariant.3

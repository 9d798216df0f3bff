use Rattle.std.proofs.Common.{◌≡◌, ◌∙◌, ◌++◌, OnOk, ap, subst, sym}
use Rattle.std.specs.Prelude.{string_bytes}
use Rattle.ir_trees.specs.Declarations.Context.{Grows}
use Rattle.candidate_eval.specs.Knowability.Answers.{AreAnswerTypes, answer_of}
use Rattle.assembly_text.specs.Checking.{AddsFailure, lint_text, orphan_text}
use Rattle.assembly_text.specs.Printing.{AddsAnswer}
use Rattle.assembly_text.proofs.Checked.{adds-compatible, adds-lint, answer-kept}
use Rattle.assembly_text.proofs.asking.Asking.check_compatibly.Goals as goal

pub returns-in_err-print_lint_impl-clause-stays : goal.returns-in_err-print_lint_impl-clause-stays
returns-in_err-print_lint_impl-clause-stays c =
    let k = c.checked-compatible.ensures in
    let p = c.print_lint_impl.ensures in
    record { grows = subst (λ s. Grows c.args.self.now.scope.maker s.maker) (sym p.scope) k.grows; names = ap (λ s. s.names) p.scope ∙ k.names; given = p.given ∙ k.given }

pub print_orphan-requires : goal.print_orphan-requires
print_orphan-requires c =
    subst (λ s. AreAnswerTypes s.maker.trees c.args.proper) (sym c.print_lint_impl.ensures.scope)
    (answer-kept c.args.self.now.scope.maker c.checked-compatible.new.self.scope.maker c.args.proper c.checked-compatible.ensures.grows c.requires.types).0

pub returns-then-passes-clause-stays : goal.returns-then-passes-clause-stays
returns-then-passes-clause-stays c =
    let k = c.checked-compatible.ensures in
    let p = c.print_lint_impl.ensures in
    let q = c.print_orphan.ensures in
    record { grows = subst (λ s. Grows c.args.self.now.scope.maker s.maker) (sym (q.scope ∙ p.scope)) k.grows; names = ap (λ s. s.names) (q.scope ∙ p.scope) ∙ k.names; given = q.given ∙ (p.given ∙ k.given) }

pub returns-then-passes-clause-found : goal.returns-then-passes-clause-found
returns-then-passes-clause-found c =
    let first = c.args.self.now in
    let mid = c.checked-compatible.new.self in
    let then = c.print_lint_impl.new.self in
    let last = c.print_orphan.new.self in
    let k = c.checked-compatible.ensures in
    let at : string_bytes then.answer ≡ string_bytes first.answer ++ lint_text first.scope.names.impls.items c.args.of =
    c.in_ok-print_lint_impl.ensures.printed ∙ (λ i. string_bytes (k.printed i) ++ lint_text (k.names i).impls.items c.args.of) in
    let same : answer_of then.scope.maker.trees c.args.proper ≡ answer_of first.scope.maker.trees c.args.proper =
    ap (λ s. answer_of s.maker.trees c.args.proper) c.print_lint_impl.ensures.scope ∙ (answer-kept first.scope.maker mid.scope.maker c.args.proper k.grows c.requires.types).1 in
    adds-lint c.checked-compatible.result c.print_orphan.result first.scope.names.impls.items first.scope.maker mid.scope.maker.trees c.args.of c.args.header (answer_of first.scope.maker.trees c.args.proper)
    (string_bytes first.answer) (string_bytes then.answer) (string_bytes last.answer) (c.passes.ensures.passes c.if-passes.true) k.answer at
    (subst (λ x. OnOk c.print_orphan.result (AddsAnswer x (string_bytes then.answer) (string_bytes last.answer))) same c.print_orphan.ensures.printed)

pub returns-in_err-print_orphan_impl-clause-stays : goal.returns-in_err-print_orphan_impl-clause-stays
returns-in_err-print_orphan_impl-clause-stays c =
    let k = c.checked-compatible.ensures in
    let p = c.print_orphan_impl.ensures in
    record { grows = subst (λ s. Grows c.args.self.now.scope.maker s.maker) (sym p.scope) k.grows; names = ap (λ s. s.names) p.scope ∙ k.names; given = p.given ∙ k.given }

pub print_failure-requires : goal.print_failure-requires
print_failure-requires c = subst (λ s. AreAnswerTypes s.maker.trees c.checked-compatible.result) (sym c.print_orphan_impl.ensures.scope) c.checked-compatible.ensures.types

pub returns-clause-stays : goal.returns-clause-stays
returns-clause-stays c =
    let k = c.checked-compatible.ensures in
    let p = c.print_orphan_impl.ensures in
    let q = c.print_failure.ensures in
    record { grows = subst (λ s. Grows c.args.self.now.scope.maker s.maker) (sym (q.scope ∙ p.scope)) k.grows; names = ap (λ s. s.names) (q.scope ∙ p.scope) ∙ k.names; given = q.given ∙ (p.given ∙ k.given) }

pub returns-clause-found : goal.returns-clause-found
returns-clause-found c =
    let first = c.args.self.now in
    let mid = c.checked-compatible.new.self in
    let then = c.print_orphan_impl.new.self in
    let last = c.print_failure.new.self in
    let k = c.checked-compatible.ensures in
    let at : string_bytes then.answer ≡ string_bytes first.answer ++ orphan_text first.scope.names.impls.items c.args.of =
    c.in_ok-print_orphan_impl.ensures.printed ∙ (λ i. string_bytes (k.printed i) ++ orphan_text (k.names i).impls.items c.args.of) in
    adds-compatible c.checked-compatible.result c.print_failure.result first.scope.names.impls.items first.scope.maker mid.scope.maker.trees c.args.of c.args.header (answer_of first.scope.maker.trees c.args.proper)
    (string_bytes first.answer) (string_bytes then.answer) (string_bytes last.answer) (c.passes.ensures.fails c.if-passes.false) k.answer at
    (subst (λ s. OnOk c.print_failure.result (AddsFailure (answer_of s.maker.trees c.checked-compatible.result) (string_bytes then.answer) (string_bytes last.answer))) c.print_orphan_impl.ensures.scope c.print_failure.ensures.printed)

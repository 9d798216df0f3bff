use Rattle.std.proofs.Common.{◌≡◌, ◌∙◌, ◌++◌, ℕ, List, OnOk, ap, false, refl, subst, sym}
use Rattle.std.specs.Prelude.{string_bytes}
use Rattle.ir_trees.specs.Declarations.Context.{Grows}
use Rattle.candidate_eval.specs.Knowability.Answers.{AreAnswerTypes, answer_of}
use Rattle.candidate_eval.specs.declared.coherence.InCrate.TheVariants.{Local}
use Rattle.candidate_eval.specs.declared.coherence.OrphanCheckMode.TheVariants.{Compat}
use Rattle.candidate_eval.specs.Knowability.Calls.{plain_check_of}
use Rattle.assembly_notation.specs.declared.names.Names.{Names}
use Rattle.assembly_text.specs.Checking.{AddsFailure, AddsOfRefused, SaysOfImpl, not_asked, orphan_text}
use Rattle.assembly_text.proofs.Checked.{adds-passing, adds-refused, adds-stop, plain-check-kept}
use Rattle.assembly_text.proofs.Finding.{adds-nothing, stays-refl, stays-then}
use Rattle.ir_trees.specs.Syntax.Trees.{Forest, holds, is_param}
use Rattle.ir_trees.proofs.Growth.Kept.{args-kept, grows-refl, header-kept}
use Rattle.assembly_text.proofs.asking.Asking.check_header.Goals as goal

pub returns-then-not-may_be_orphan-clause-stays : goal.returns-then-not-may_be_orphan-clause-stays
returns-then-not-may_be_orphan-clause-stays c = stays-refl c.args.self.now

pub returns-then-not-may_be_orphan-clause-found : goal.returns-then-not-may_be_orphan-clause-found
returns-then-not-may_be_orphan-clause-found c =
    let s = c.args.self.now in
    adds-nothing (SaysOfImpl s.scope.names s.scope.maker c.args.of) (string_bytes s.answer) (string_bytes s.answer)
    (not_asked s.scope.maker c.args.header (grows-refl _) c.requires.header (sym c.may_be_orphan.ensures ∙ c.if-not-may_be_orphan.true)) refl

pub returns-then-passes-clause-found : goal.returns-then-passes-clause-found
returns-then-passes-clause-found c =
    let s = c.args.self.now in
    let k = c.checked-checked.ensures in
    adds-passing c.checked-checked.result s.scope.names s.scope.maker s.scope.maker c.checked-checked.new.self.scope.maker.trees c.args.of c.args.header (string_bytes s.answer) (string_bytes c.checked-checked.new.self.answer)
    (grows-refl _) c.requires.header (c.passes.ensures.passes c.if-passes.true) k.answer (ap string_bytes k.printed)

pub print_failure-requires : goal.print_failure-requires
print_failure-requires c = subst (λ s. AreAnswerTypes s.maker.trees c.checked-checked.result) (sym c.print_orphan_impl.ensures.scope) c.checked-checked.ensures.types

pub returns-in_err-print_orphan_impl-clause-stays : goal.returns-in_err-print_orphan_impl-clause-stays
returns-in_err-print_orphan_impl-clause-stays c =
    let k = c.checked-checked.ensures in
    let p = c.print_orphan_impl.ensures in
    record { grows = subst (λ s. Grows c.args.self.now.scope.maker s.maker) (sym p.scope) k.grows; names = ap (λ s. s.names) p.scope ∙ k.names; given = p.given ∙ k.given }

pub returns-clause-stays : goal.returns-clause-stays
returns-clause-stays c =
    let k = c.checked-checked.ensures in
    let p = c.print_orphan_impl.ensures in
    let q = c.print_failure.ensures in
    record { grows = subst (λ s. Grows c.args.self.now.scope.maker s.maker) (sym (q.scope ∙ p.scope)) k.grows; names = ap (λ s. s.names) (q.scope ∙ p.scope) ∙ k.names; given = q.given ∙ (p.given ∙ k.given) }

pub returns-clause-found : goal.returns-clause-found
returns-clause-found c =
    let first = c.args.self.now in
    let mid = c.checked-checked.new.self in
    let then = c.print_orphan_impl.new.self in
    let last = c.print_failure.new.self in
    let k = c.checked-checked.ensures in
    let at : string_bytes then.answer ≡ string_bytes first.answer ++ orphan_text first.scope.names.impls.items c.args.of =
    c.in_ok-print_orphan_impl.ensures.printed ∙ (λ i. string_bytes (k.printed i) ++ orphan_text (k.names i).impls.items c.args.of) in
    adds-stop c.checked-checked.result c.print_failure.result first.scope.names first.scope.maker first.scope.maker mid.scope.maker.trees c.args.of c.args.header (string_bytes first.answer) (string_bytes then.answer) (string_bytes last.answer)
    (grows-refl _) c.requires.header (c.refuses.ensures.stops c.if-refuses.false) (c.passes.ensures.fails c.if-passes.false) k.answer at
    (subst (λ s. OnOk c.print_failure.result (AddsFailure (answer_of s.maker.trees c.checked-checked.result) (string_bytes then.answer) (string_bytes last.answer))) c.print_orphan_impl.ensures.scope c.print_failure.ensures.printed)

-- Where the proper check refuses the header.

pub check_compatibly-requires-clause-args : goal.check_compatibly-requires-clause-args
check_compatibly-requires-clause-args c = (args-kept c.args.self.now.scope.maker c.checked-checked.new.self.scope.maker c.args.header.args c.checked-checked.ensures.grows c.requires.args).0

pub check_compatibly-requires-clause-no_param : goal.check_compatibly-requires-clause-no_param
check_compatibly-requires-clause-no_param c =
    subst (λ (f : Forest). holds is_param f ≡ false) (sym (args-kept c.args.self.now.scope.maker c.checked-checked.new.self.scope.maker c.args.header.args c.checked-checked.ensures.grows c.requires.args).1) c.requires.no_param

pub check_compatibly-requires-clause-fit : goal.check_compatibly-requires-clause-fit
check_compatibly-requires-clause-fit c = header-kept c.args.self.now.scope.maker c.checked-checked.new.self.scope.maker c.args.header c.checked-checked.ensures.grows c.requires.args c.requires.fit

pub check_compatibly-requires-clause-types : goal.check_compatibly-requires-clause-types
check_compatibly-requires-clause-types c = c.checked-checked.ensures.types

pub returns-then-refuses-clause-stays : goal.returns-then-refuses-clause-stays
returns-then-refuses-clause-stays c =
    let k = c.checked-checked.ensures in
    stays-then c.args.self.now c.checked-checked.new.self c.check_compatibly.new.self (record { grows = k.grows; names = k.names; given = k.given }) c.check_compatibly.ensures.stays

pub returns-then-refuses-clause-found : goal.returns-then-refuses-clause-found
returns-then-refuses-clause-found c =
    let first = c.args.self.now in
    let mid = c.checked-checked.new.self in
    let last = c.check_compatibly.new.self in
    let k = c.checked-checked.ensures in
    let other = plain_check_of mid.scope.maker (Local Compat) c.args.header in
    adds-refused c.checked-checked.result c.check_compatibly.result first.scope.names first.scope.maker first.scope.maker mid.scope.maker.trees c.args.of c.args.header other (string_bytes first.answer) (string_bytes last.answer)
    (grows-refl _) c.requires.header (c.refuses.ensures.refuses c.if-refuses.true) k.answer (plain-check-kept first.scope.maker mid.scope.maker (Local Compat) c.args.header k.grows c.requires.args)
    (subst (λ (x : Names × List ℕ). OnOk c.check_compatibly.result (AddsOfRefused x.0.impls.items c.args.of (answer_of mid.scope.maker.trees c.checked-checked.result) other x.1 (string_bytes last.answer)))
    (λ i. (k.names i, string_bytes (k.printed i))) c.check_compatibly.ensures.found)

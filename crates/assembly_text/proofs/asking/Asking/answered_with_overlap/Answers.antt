use Rattle.std.proofs.lemmas.Result.{IfOk-weaker}
use Rattle.std.proofs.Common.{◌≡◌, None, Ok, ap, rules, subst, sym}
use Rattle.std.specs.Prelude.{string_bytes}
use Rattle.ir_trees.specs.Declarations.Context.{Context}
use Rattle.assembly_notation.specs.declared.given.Given.{Given}
use Rattle.overlaps.specs.declared.overlap.Overlap.TheVariants as O
use Rattle.assembly_text.specs.Negating.{AddsUnlessApart, IsDecided, adds_answer, adds_unless_apart}
use Rattle.assembly_text.specs.Overlapping.{AddsOverlapWords, IsOverlapSolved}
use Rattle.assembly_text.proofs.Answered.{overlap-prints, printed-as}
use Rattle.assembly_text.proofs.Compared.{ok-value}
use Rattle.assembly_text.proofs.Negating.{ok-both, on-ok-weaker}
use Rattle.assembly_text.proofs.asking.Asking.answered_with_overlap.Goals as goal

pub print_overlap-made-requires : goal.print_overlap-made-requires
print_overlap-made-requires c = IfOk-weaker c.overlapped-asking.result.1 _ _ (overlap-prints c.args.self.scope.maker c.args.self.given c.args.first c.args.second c.args.effort c.overlapped-asking.result.0.scope.maker) c.overlapped-asking.ensures.is

pub answered_unless_apart-requires-clause-printable : goal.answered_unless_apart-requires-clause-printable
answered_unless_apart-requires-clause-printable c =
    let mid = c.overlapped-asking.result.0 in
    let x = c.in-Some.instance in
    let is : c.overlapped-asking.result.1 ≡ Ok (O.May x) = search rules in
    overlap-prints c.args.self.scope.maker c.args.self.given c.args.first c.args.second c.args.effort mid.scope.maker (O.May x) (ok-value _ c.overlapped-asking.result.1 (O.May x) is c.overlapped-asking.ensures.is)

pub returns-in-Some : goal.returns-in-Some
returns-in-Some c =
    let first = c.args.self in
    let mid = c.overlapped-asking.result.0 in
    let last = c.answered_unless_apart.result.0 in
    let x = c.in-Some.instance in
    let is : c.overlapped-asking.result.1 ≡ Ok (O.May x) = search rules in
    let solved = ok-value _ c.overlapped-asking.result.1 (O.May x) is c.overlapped-asking.ensures.is in
    on-ok-weaker c.answered_unless_apart.result.1
    (λ h. adds_unless_apart x mid.scope.maker solved
    (subst (λ (g : Given). AddsUnlessApart mid.scope.maker g c.args.first c.args.second x last.scope.maker (string_bytes first.answer) (string_bytes last.answer)) c.overlapped-asking.ensures.given
    (subst (λ a. AddsUnlessApart mid.scope.maker mid.given c.args.first c.args.second x last.scope.maker (string_bytes a) (string_bytes last.answer)) c.overlapped-asking.ensures.answer h)))
    c.answered_unless_apart.ensures

pub returns-in-None : goal.returns-in-None
returns-in-None c =
    let first = c.args.self in
    let mid = c.overlapped-asking.result.0 in
    let last = c.print_overlap-made.new.self in
    let none : c.instance_of.result ≡ None = search rules in
    let both = ok-both (IsOverlapSolved first.scope.maker first.given c.args.first c.args.second c.args.effort mid.scope.maker) IsDecided c.overlapped-asking.result.1 c.overlapped-asking.ensures.is (c.instance_of.ensures.decided none) in
    printed-as c.overlapped-asking.result.1 c.print_overlap-made.result (λ o. AddsOverlapWords c.args.first o (string_bytes mid.answer) (string_bytes last.answer)) both c.print_overlap-made.ensures.printed
    c.print_overlap-made.ensures.stopped
    (λ o h p. adds_answer o (subst (λ (x : Context). IsOverlapSolved first.scope.maker first.given c.args.first c.args.second c.args.effort x o) (sym (ap (λ s. s.maker) c.print_overlap-made.ensures.scope)) h.0) h.1
    (subst (λ a. AddsOverlapWords c.args.first o (string_bytes a) (string_bytes last.answer)) c.overlapped-asking.ensures.answer p))

use Rattle.std.proofs.Common.{◌≡◌, ◌∙◌, ◌<◌, arith, List, Some, length, rules, slice_get, subst, sym, ap}
use Rattle.std.proofs.lemmas.List.{get_or_read}
use Rattle.ir_trees.specs.declared.decl.contents.ImplId.{ImplId}
use Rattle.assembly_text.specs.Checking.{AddsOfLine, AddsOfLines}
use Rattle.assembly_text.specs.Specializing.{specialized_by}
use Rattle.assembly_text.proofs.Finding.{got-there, line-more, no-lines, stays-refl, stays-then}
use Rattle.assembly_text.proofs.asking.Asking.with_lines.Goals as goal

pub returns-in-Err-clause-stays : goal.returns-in-Err-clause-stays
returns-in-Err-clause-stays c = stays-refl c.args.self

pub loop-place-init : goal.loop-place-init
loop-place-init c = (c.requires.declared, stays-refl c.args.self, no-lines c.args.of c.args.self)

pub loop-place-preserved : goal.loop-place-preserved
loop-place-preserved c =
    let before = c.loop-place.invariant in
    let js = c.in-Ok.lines.items in
    let are : js ≡ specialized_by c.args.self.scope.maker c.args.of = search rules in
    let n = c.loop-place.place in
    let j = c.index.result.now in
    let none : ImplId = record { 0 = 0 } in
    let last = c.with_line-asked.result.0 in
    let below : n < length js = search rules in
    let read : slice_get js n ≡ Some j = got-there js n none below ∙ ap Some (sym (get_or_read js n j below c.index.ensures none)) in
    let there : slice_get (specialized_by c.args.self.scope.maker c.args.of) n ≡ Some j = subst (λ (xs : List ImplId). slice_get xs n ≡ Some j) are read in
    let found : AddsOfLine c.args.of j c.loop-place.asking last = search rules in (
      c.with_line-asked.ensures.declared,
      stays-then c.args.self c.loop-place.asking last before.1 c.with_line-asked.ensures.stays,
      line-more c.args.of j n c.args.self c.loop-place.asking last before.1 there before.2 found,
    )

pub returns-clause-found : goal.returns-clause-found
returns-clause-found c =
    let js = c.in-Ok.lines.items in
    let are : js ≡ specialized_by c.args.self.scope.maker c.args.of = search rules in
    let all : c.loop-place.place ≡ length (specialized_by c.args.self.scope.maker c.args.of) = omega (arith, c.loop-place-test.false, c.loop-place.auto.place-end) ∙ ap length are in
    subst (λ n. AddsOfLines c.args.of n c.args.self c.loop-place.asking) all c.loop-place.invariant.2

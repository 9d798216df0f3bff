use Rattle.std.proofs.Common.{◌≡◌, ◌∙◌, arith, length, rules, subst, sym}
use Rattle.ir_trees.specs.declared.decl.contents.ImplId.{ImplId}
use Rattle.assembly_text.specs.Checking.{AddsOfImpls, AddsWithOthers, IsLength}
use Rattle.assembly_text.proofs.Finding.{impl-more, no-impls, stays-refl, stays-then}
use Rattle.assembly_text.proofs.Pairing.{aliases-on}
use Rattle.assembly_text.proofs.asking.Asking.with_findings.Goals as goal

pub loop-number-init : goal.loop-number-init
loop-number-init c = (c.requires.declared, stays-refl c.args.self, no-impls c.args.effort c.number_of-impls.result c.args.self)

pub loop-number-preserved : goal.loop-number-preserved
loop-number-preserved c =
    let before = c.loop-number.invariant in
    let n = c.loop-number.number in
    let last = c.with_impl-asked.result.0 in
    let of : ImplId = record { 0 = n } in
    let seen : AddsWithOthers c.args.effort c.in-Ok.with_aliases.number of c.loop-number.asking last = search rules in
    let found : AddsWithOthers c.args.effort c.number_of-impls.result of c.loop-number.asking last = subst (λ m. AddsWithOthers c.args.effort m of c.loop-number.asking last) c.in-Ok.ensures.number seen in (
      c.with_impl-asked.ensures.declared,
      stays-then c.args.self c.loop-number.asking last before.1 c.with_impl-asked.ensures.stays,
      impl-more c.args.effort c.number_of-impls.result n c.args.self c.loop-number.asking last before.1 before.2 found,
    )

pub returns-clause-found : goal.returns-clause-found
returns-clause-found c =
    let all : c.loop-number.number ≡ c.number_of-impls.result = omega (arith, c.loop-number-test.false, c.loop-number.auto.number-end) in
    record {
      number = c.loop-number.number;
      are_all = subst (λ n. IsLength (length c.args.self.scope.names.impls.items) n) (sym all) (subst (λ l. IsLength l c.number_of-impls.result) (c.len.ensures ∙ c.args.self.scope.names.impls.ok.0) c.number_of-impls.ensures);
      adds = subst (λ n. AddsOfImpls c.args.effort n c.loop-number.number c.args.self c.loop-number.asking) (sym all) c.loop-number.invariant.2;
    }

pub returns-in-Err-clause-stays : goal.returns-in-Err-clause-stays
returns-in-Err-clause-stays c = stays-refl c.args.self

pub with_impl-asked-requires-clause-aliases : goal.with_impl-asked-requires-clause-aliases
with_impl-asked-requires-clause-aliases c = aliases-on _ _ c.in-Ok.with_aliases c.loop-number.invariant.1.grows c.in-Ok.ensures.has

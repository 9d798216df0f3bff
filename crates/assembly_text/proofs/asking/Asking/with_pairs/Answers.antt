use Rattle.std.proofs.Common.{◌≡◌, arith, length, rules, slice_index_or, subst}
use Rattle.assembly_text.specs.Checking.{AddsOfPair, AddsOfPairs}
use Rattle.assembly_text.proofs.Finding.{got-there, no-pairs, pair-more, stays-refl, stays-then}
use Rattle.assembly_text.proofs.asking.Asking.with_pairs.Goals as goal

pub loop-place-init : goal.loop-place-init
loop-place-init c = (c.requires.declared, stays-refl c.args.self, no-pairs c.args.effort c.args.first c.args.later.now c.args.self)

pub loop-place-preserved : goal.loop-place-preserved
loop-place-preserved c =
    let before = c.loop-place.invariant in
    let js = c.args.later.now in
    let n = c.loop-place.place in
    let j = slice_index_or js n (record { 0 = 0 }) in
    let last = c.with_pair-asked.result.0 in
    let found : AddsOfPair c.args.effort c.args.first j c.loop-place.asking last = search rules in (
      c.with_pair-asked.ensures.declared,
      stays-then c.args.self c.loop-place.asking last before.1 c.with_pair-asked.ensures.stays,
      pair-more c.args.effort c.args.first j js n c.args.self c.loop-place.asking last before.1 (got-there js n (record { 0 = 0 }) c.loop-place-test.true) before.2 found,
    )

pub returns-clause-found : goal.returns-clause-found
returns-clause-found c =
    let js = c.args.later.now in
    let all : c.loop-place.place ≡ length js = omega (arith, c.loop-place-test.false, c.loop-place.auto.place-end) in
    subst (λ n. AddsOfPairs c.args.effort c.args.first js n c.args.self c.loop-place.asking) all c.loop-place.invariant.2

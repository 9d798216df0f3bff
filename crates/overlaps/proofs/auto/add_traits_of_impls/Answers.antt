use Rattle.std.proofs.Common.{◌≡◌, List, arith, length, slice_index_or, subst, ap, ◌∙◌}
use Rattle.ir_trees.specs.declared.decl.contents.ImplId.{ImplId}
use Rattle.overlaps.specs.PartTraits.{Adds, IsSaid, impls_at, wheres_at}
use Rattle.overlaps.proofs.PartTraits.{before-all, before-more, before-none}
use Rattle.overlaps.proofs.auto.add_traits_of_impls.Goals as goal

pub loop-number-init : goal.loop-number-init
loop-number-init c = let cx = c.args.cx.now in before-none (λ (i : ImplId). IsSaid cx (wheres_at cx i)) (impls_at cx c.args.of) (record { 0 = 0 }) c.args.traits.now.items

pub loop-number-preserved : goal.loop-number-preserved
loop-number-preserved c =
    let cx = c.args.cx.now in
    let now = c.loop-number.traits.items in
    let next = c.add_traits_of_impl.new.traits.items in
    before-more (λ (i : ImplId). IsSaid cx (wheres_at cx i)) (impls_at cx c.args.of) (record { 0 = 0 }) c.loop-number.number c.args.traits.now.items now next c.loop-number.invariant
    (subst (λ (xs : List ImplId). Adds (IsSaid cx (wheres_at cx (slice_index_or xs c.loop-number.number (record { 0 = 0 })))) now next) c.impls_of-impls.ensures c.in_ok-add_traits_of_impl.ensures.adds)

pub returns-clause-adds : goal.returns-clause-adds
returns-clause-adds c =
    let cx = c.args.cx.now in
    let all : c.loop-number.number ≡ length c.impls_of-impls.result.now = omega (arith, c.loop-number-test.false, c.loop-number.auto.number-end) in
    before-all (λ (i : ImplId). IsSaid cx (wheres_at cx i)) (impls_at cx c.args.of) (record { 0 = 0 }) c.loop-number.number c.args.traits.now.items c.loop-number.traits.items
    (all ∙ ap (λ (xs : List ImplId). length xs) c.impls_of-impls.ensures) c.loop-number.invariant

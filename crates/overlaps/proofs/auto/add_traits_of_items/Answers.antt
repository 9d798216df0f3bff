use Rattle.std.proofs.Common.{◌≡◌, List, arith, length, slice_index_or, subst, ap, ◌∙◌}
use Rattle.ir_trees.specs.declared.ir.kinds.AssocId.{AssocId}
use Rattle.overlaps.specs.PartTraits.{Adds, IsSaidOfItem, items_at}
use Rattle.overlaps.proofs.PartTraits.{before-all, before-more, before-none}
use Rattle.overlaps.proofs.auto.add_traits_of_items.Goals as goal

pub loop-number-init : goal.loop-number-init
loop-number-init c = let cx = c.args.cx.now in before-none (IsSaidOfItem cx) (items_at cx c.args.of) (record { 0 = 0 }) c.args.traits.now.items

pub loop-number-preserved : goal.loop-number-preserved
loop-number-preserved c =
    let cx = c.args.cx.now in
    let now = c.loop-number.traits.items in
    let next = c.add_traits_of_item.new.traits.items in
    before-more (IsSaidOfItem cx) (items_at cx c.args.of) (record { 0 = 0 }) c.loop-number.number c.args.traits.now.items now next c.loop-number.invariant
    (subst (λ (xs : List AssocId). Adds (IsSaidOfItem cx (slice_index_or xs c.loop-number.number (record { 0 = 0 }))) now next) c.associated_items-items.ensures c.in_ok-add_traits_of_item.ensures.adds)

pub returns-clause-adds : goal.returns-clause-adds
returns-clause-adds c =
    let cx = c.args.cx.now in
    let all : c.loop-number.number ≡ length c.associated_items-items.result.now = omega (arith, c.loop-number-test.false, c.loop-number.auto.number-end) in
    before-all (IsSaidOfItem cx) (items_at cx c.args.of) (record { 0 = 0 }) c.loop-number.number c.args.traits.now.items c.loop-number.traits.items
    (all ∙ ap (λ (xs : List AssocId). length xs) c.associated_items-items.ensures) c.loop-number.invariant

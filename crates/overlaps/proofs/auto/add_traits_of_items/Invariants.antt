use Rattle.overlaps.specs.PartTraits.{Adds, IsSaidOfItem, items_at}
use Rattle.overlaps.proofs.PartTraits.{Before}
use Rattle.overlaps.proofs.auto.add_traits_of_items.Given as goal

-- the traits of the associated types so far were added
abbrev pub invariant-loop-number : goal.invariant-loop-number
invariant-loop-number l = let c = l.fn.cx in Adds (Before (IsSaidOfItem c) (items_at c l.fn.of) (record { 0 = 0 }) l.number) l.fn.traits.items l.traits.items

use Rattle.std.specs.List.{Contains}
use Rattle.ir_trees.specs.declared.ir.kinds.TraitId.{TraitId}
use Rattle.overlaps.specs.PartTraits.{LeadsTo}
use Rattle.overlaps.proofs.PartTraits.{AreDone}
use Rattle.overlaps.proofs.auto.may_rest_on_part.Given as goal

-- the trait leads to each of the list, which has it; and those so far were looked at
abbrev pub invariant-loop-place : goal.invariant-loop-place
invariant-loop-place l =
    let c = l.fn.cx in
    let xs = l.traits.items in ((t : TraitId) → Contains xs t → LeadsTo c l.fn.of t) × Contains xs l.fn.of × AreDone c xs (record { 0 = 0 }) l.place

use Rattle.overlaps.specs.PartTraits.{impls_at}
use Rattle.overlaps.proofs.PartTraits.{NoneForPart}
use Rattle.overlaps.proofs.auto.is_implemented_by_part.Given as goal

-- none of the impls so far is for a part
abbrev pub invariant-loop-number : goal.invariant-loop-number
invariant-loop-number l = NoneForPart l.fn.cx (impls_at l.fn.cx l.fn.of) (record { 0 = 0 }) l.number

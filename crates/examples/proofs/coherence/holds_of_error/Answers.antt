use Rattle.ir_trees.proofs.Growth.Made.{IsRegion-grows}
use Rattle.examples.proofs.coherence.holds_of_error.Goals as goal

pub reference-requires-clause-region : goal.reference-requires-clause-region
reference-requires-clause-region c = IsRegion-grows _ _ c.in_ok-region.region c.in_ok-ty.ensures.made.kept c.in_ok-region.ensures.made.sort

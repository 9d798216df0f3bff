use Rattle.overlaps.proofs.PartTraits.{of-not-true}
use Rattle.overlaps.proofs.auto.is_new_parameter.Goals as goal

pub returns-then-is_parameter-clause-new : goal.returns-then-is_parameter-clause-new
returns-then-is_parameter-clause-new c = λ yes. c.stands_before.ensures (of-not-true c.stands_before.result yes)

use Rattle.ir_trees.proofs.Traversal.Asking.{arg-below}
use Rattle.candidate_rounds.proofs.rounds.Rounds.current_number.Goals as goal

pub returns-in_ok-current-in-Some-clause-inside : goal.returns-in_ok-current-in-Some-clause-inside
returns-in_ok-current-in-Some-clause-inside c = rw c.number.ensures (arg-below c.current.new.self.context.trees c.in_ok-current-in-Some.field-0 c.in_ok-current-in-Some.ensures.sort)

use Rattle.std.proofs.Common.{◌≡◌, length}
use Rattle.candidate_rounds.specs.Evaluators.Inferences.{back_to}
use Rattle.candidate_rounds.proofs.rounds.inference.Inference.undo_to.Given as goal

abbrev pub invariant-loop-self : goal.invariant-loop-self
invariant-loop-self l = back_to l.changes l.self ≡ back_to l.changes l.initial.self

abbrev pub decreases-loop-self : goal.decreases-loop-self
decreases-loop-self l = length l.self.trail

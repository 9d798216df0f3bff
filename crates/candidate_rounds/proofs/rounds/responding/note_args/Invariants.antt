use Rattle.candidate_rounds.specs.Calls.Walking.{AreGathered}
use Rattle.candidate_rounds.proofs.Obligations.Noting.{IsNotedTo}
use Rattle.candidate_rounds.proofs.rounds.responding.note_args.Given as goal

abbrev pub invariant-loop-i : goal.invariant-loop-i
invariant-loop-i l = IsNotedTo l.cx.trees l.initial.numbers.items l.list l.i l.numbers.items × AreGathered l.numbers.items l.cx.trees l.walked

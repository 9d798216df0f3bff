use Rattle.std.proofs.Common.{◌≡◌, take}
use Rattle.candidate_rounds.specs.Table.Steps.{with_marks}
use Rattle.candidate_rounds.proofs.rounds.derivation.mark_all_below.Given as goal

abbrev pub invariant-loop-i : goal.invariant-loop-i
invariant-loop-i l = l.marks.items ≡ with_marks l.fn.marks.items (take l.i l.places) l.bound

use Rattle.std.proofs.Common.{slice_get}
use Rattle.candidate_rounds.specs.Calls.Gathered.{open_entry}
use Rattle.candidate_rounds.proofs.Obligations.Places.{IsMapped}
use Rattle.candidate_rounds.proofs.rounds.responding.open_variables.Given as goal

abbrev pub invariant-loop-i : goal.invariant-loop-i
invariant-loop-i l = IsMapped (λ n. open_entry (slice_get l.inference.variables n)) l.numbers l.i l.list.items

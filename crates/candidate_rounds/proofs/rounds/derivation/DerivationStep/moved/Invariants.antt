use Rattle.std.proofs.Common.{◌≡◌, filter_map, slice_get, take}
use Rattle.candidate_rounds.proofs.rounds.derivation.DerivationStep.moved.Given as goal

abbrev pub invariant-loop-i : goal.invariant-loop-i
invariant-loop-i l = l.nested.items ≡ filter_map (slice_get l.places) (take l.i l.self.nested.items)

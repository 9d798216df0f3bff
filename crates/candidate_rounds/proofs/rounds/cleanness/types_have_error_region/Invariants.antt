use Rattle.std.specs.Prelude.{take}
use Rattle.candidate_rounds.specs.Table.Cleanness.{IsWithoutError}
use Rattle.candidate_rounds.specs.Table.Goals.{Each}
use Rattle.candidate_rounds.proofs.rounds.cleanness.types_have_error_region.Given as goal

abbrev pub invariant-loop-i : goal.invariant-loop-i
invariant-loop-i l = Each (IsWithoutError l.fn.cx.trees) (take l.i l.fn.pairs)

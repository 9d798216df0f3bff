use Rattle.std.specs.Prelude.{take}
use Rattle.candidate_rounds.specs.declared.rounds.inference.Entry.{Entry}
use Rattle.candidate_rounds.specs.Evaluators.Known.{info_of}
use Rattle.candidate_rounds.specs.Evaluators.Leaking.{ValueLeaks}
use Rattle.candidate_rounds.specs.Table.Goals.{Each}
use Rattle.candidate_rounds.proofs.rounds.leaking.values_leak.Given as goal

abbrev pub invariant-loop-i : goal.invariant-loop-i
invariant-loop-i l = Each (λ (e : Entry). ValueLeaks l.fn.above (info_of l.fn.cx.trees e) → ⊥) (take l.i l.fn.entries)

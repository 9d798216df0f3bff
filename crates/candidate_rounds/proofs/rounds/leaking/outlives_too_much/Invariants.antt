use Rattle.std.specs.Prelude.{take}
use Rattle.ir_trees.specs.declared.ir.kinds.RegionKind.{RegionKind}
use Rattle.candidate_rounds.specs.Evaluators.Leaking.{CantName}
use Rattle.candidate_rounds.specs.Table.Goals.{Each}
use Rattle.candidate_rounds.proofs.rounds.leaking.outlives_too_much.Given as goal

abbrev pub invariant-loop-i : goal.invariant-loop-i
invariant-loop-i l = Each (λ (r : RegionKind). CantName l.fn.universes l.fn.placeholder r → ⊥) (take l.i l.list.items)

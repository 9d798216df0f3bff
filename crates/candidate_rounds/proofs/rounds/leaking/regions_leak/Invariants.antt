use Rattle.std.specs.Prelude.{◌≡◌, ◌<◌, take}
use Rattle.ir_trees.specs.declared.ir.kinds.Placeholder.{Placeholder}
use Rattle.ir_trees.specs.declared.ir.kinds.RegionKind.TheVariants as R
use Rattle.candidate_rounds.specs.declared.rounds.leaking.RegionOutlives.{RegionOutlives}
use Rattle.candidate_rounds.specs.Calls.Leaking.{IsSaid}
use Rattle.candidate_rounds.specs.Evaluators.Leaking.{OutlivesTooMuch}
use Rattle.candidate_rounds.specs.Table.Goals.{Each}
use Rattle.candidate_rounds.proofs.rounds.leaking.regions_leak.Given as goal

abbrev pub invariant-loop-i : goal.invariant-loop-i
invariant-loop-i l =
    Each (λ (x : RegionOutlives). (p : Placeholder) → x.longer ≡ R.Placeholder p → l.fn.above < p.universe → OutlivesTooMuch (IsSaid l.said.items) l.fn.universes p → ⊥) (take l.i l.said.items)

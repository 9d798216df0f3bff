use Rattle.std.proofs.Common.{◌≡◌, drop}
use Rattle.std.specs.List.{list_any}
use Rattle.ir_trees.specs.Syntax.Words.{pred_tree}
use Rattle.candidate_assembly.specs.Calls.Upcasting.{names_auto}
use Rattle.candidate_assembly.proofs.trait_goals.bounds_met.is_auto_bound.Given as goal

-- none of the bounds before names it
abbrev pub invariant-loop-bound : goal.invariant-loop-bound
invariant-loop-bound l = list_any (λ p. names_auto l.of.0 (pred_tree l.cx.trees p)) l.bounds ≡ list_any (λ p. names_auto l.of.0 (pred_tree l.cx.trees p)) (drop l.bound-index l.bounds)

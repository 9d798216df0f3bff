use Rattle.std.proofs.Common.{◌++◌, ◌≡◌, ◌≤◌}
use Rattle.ir_trees.specs.Syntax.Nodes.{tree_at}
use Rattle.ir_trees.specs.Syntax.Trees.{count, skip}
use Rattle.candidate_eval.specs.Derivations.Characterization.{binder_kinds}
use Rattle.candidate_eval.specs.Interface.Evaluators.{kinds_listed}
use Rattle.candidate_assembly.proofs.assembly.characterize.bound_kinds.Given as goal

-- the variables before are there, and have their kinds
abbrev pub invariant-loop-place : goal.invariant-loop-place
invariant-loop-place l =
    let variables = (tree_at l.cx.trees l.binder).children in
    (l.place ≤ count variables) × (kinds_listed l.kinds.items ++ binder_kinds (skip l.place variables) ≡ binder_kinds variables)

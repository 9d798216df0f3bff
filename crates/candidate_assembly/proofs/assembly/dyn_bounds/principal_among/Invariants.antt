use Rattle.std.proofs.Common.{◌≡◌, map}
use Rattle.std.proofs.Math.ListN.{drop}
use Rattle.ir_trees.specs.Syntax.Words.{pred_tree}
use Rattle.candidate_assembly.proofs.Objects.ObjectClauses.{principal-among}
use Rattle.candidate_assembly.proofs.assembly.dyn_bounds.principal_among.Given as goal

-- no bound before is a principal
abbrev pub invariant-loop-bound : goal.invariant-loop-bound
invariant-loop-bound l =
    let us = map (pred_tree l.fn.cx.trees) l.fn.bounds in
    principal-among us ≡ principal-among (drop l.bound-index us)

use Rattle.std.proofs.Common.{◌+◌, ◌-◌, ◌≤◌, length}
use Rattle.std.specs.Prelude.{vec_capacity}
use Rattle.ir_trees.proofs.Unification.JoinedLists.{JoinedSoFar}
use Rattle.ir_trees.proofs.decl.heads.join.Given as goal

abbrev pub invariant-loop-taken : goal.invariant-loop-taken
invariant-loop-taken l = JoinedSoFar l.first l.second l.taken l.passed l.joined.items × (length l.first + length l.second ≤ vec_capacity l.joined)

-- how many are left
abbrev pub decreases-loop-taken : goal.decreases-loop-taken
decreases-loop-taken l = (length l.first + length l.second) - (l.taken + l.passed)

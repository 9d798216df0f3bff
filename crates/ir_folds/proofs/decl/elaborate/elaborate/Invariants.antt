use Rattle.std.proofs.Common.{◌≡◌, ◌-◌}
use Rattle.ir_context.proofs.Hierarchy.Walking.{WalkSoFar}
use Rattle.ir_folds.proofs.decl.elaborate.elaborate.Given as goal

abbrev pub invariant-loop-walked : goal.invariant-loop-walked
invariant-loop-walked g l =
    WalkSoFar (g.M.Build.context l.fn.make) (g.M.Build.context l.make) l.fn.clauses l.list.keys l.walked × (g.M.Build.rest l.make ≡ g.M.Build.rest l.fn.make)

-- no list is longer than a `usize` counts
abbrev pub decreases-loop-walked : goal.decreases-loop-walked
decreases-loop-walked g l = 18446744073709551615 - l.walked

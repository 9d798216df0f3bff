use Rattle.std.proofs.Common.{◌≡◌, map}
use Rattle.ir_trees.specs.Syntax.Words.{pred_tree, ty_tree}
use Rattle.candidate_assembly.proofs.Objects.ObjectClauses.{SaidSoFar}
use Rattle.candidate_assembly.proofs.assembly.object_bounds.bounds_said.Given as goal

-- what the bounds before say was made
abbrev pub invariant-loop-bound : goal.invariant-loop-bound
invariant-loop-bound g l =
    let start = g.M.Build.context l.fn.make in
    SaidSoFar start (g.M.Build.context l.make) (ty_tree start.trees l.fn.ty) (map (pred_tree start.trees) l.fn.bounds) l.bound-index l.clauses.items × (g.M.Build.rest l.make ≡ g.M.Build.rest l.fn.make)

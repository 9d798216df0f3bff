use Rattle.std.proofs.Common.{◌≡◌}
use Rattle.ir_trees.specs.Syntax.Words.{args_forest}
use Rattle.candidate_eval.proofs.Builtins.Types.{PutSoFar}
use Rattle.candidate_eval.proofs.structural.making.substituted.Given as goal

-- arguments were put into the types before
abbrev pub invariant-loop-ty : goal.invariant-loop-ty
invariant-loop-ty g l =
    let start = g.M.Build.context l.fn.make in
    PutSoFar start (g.M.Build.context l.make) (args_forest start.trees l.fn.args) l.fn.declared l.ty-index l.types.items × (g.M.Build.rest l.make ≡ g.M.Build.rest l.fn.make)

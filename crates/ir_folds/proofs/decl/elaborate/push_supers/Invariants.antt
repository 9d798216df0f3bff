use Rattle.std.proofs.Common.{◌≡◌}
use Rattle.ir_trees.specs.Syntax.Words.{vars_tree, args_forest}
use Rattle.ir_context.proofs.Hierarchy.Listing.{SupersSoFar}
use Rattle.ir_folds.proofs.decl.elaborate.push_supers.Given as goal

-- the super clauses before that place were added
abbrev pub invariant-loop-place : goal.invariant-loop-place
invariant-loop-place g l =
    let start = g.M.Build.context l.fn.make in
    SupersSoFar start (g.M.Build.context l.make) l.fn.list.keys l.list.keys (vars_tree start.trees l.fn.vars).children (args_forest start.trees l.fn.trait_ref.args) l.fn.trait_ref.def_id.0 l.place
    × (g.M.Build.rest l.make ≡ g.M.Build.rest l.fn.make)

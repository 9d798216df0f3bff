use Rattle.std.proofs.Common.{◌≡◌, [], take}
use Rattle.std.specs.List.{flat_map}
use Rattle.ir_trees.specs.Syntax.Words.{args_forest}
use Rattle.candidate_eval.proofs.Dynamic.Required.{AddedSoFar}
use Rattle.candidate_assembly.proofs.Rules.TraitAliases.{with_values}
use Rattle.candidate_assembly.proofs.assembly.alias_bounds.bounds_with_arguments.Given as goal

-- the clauses before were added, with arguments put in
abbrev pub invariant-loop-clause : goal.invariant-loop-clause
invariant-loop-clause g l =
    let start = g.M.Build.context l.fn.make in
    AddedSoFar start (g.M.Build.context l.make) [] l.list.items (flat_map (with_values start.trees (args_forest start.trees l.fn.alias.args)) (take l.clause-index l.clause-items)) × (g.M.Build.rest l.make ≡ g.M.Build.rest l.fn.make)

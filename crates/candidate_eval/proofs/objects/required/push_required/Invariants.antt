use Rattle.std.proofs.Common.{◌≡◌, take}
use Rattle.std.specs.List.{flat_map}
use Rattle.ir_trees.specs.Syntax.Words.{args_forest}
use Rattle.candidate_eval.proofs.Dynamic.Required.{AddedSoFar}
use Rattle.candidate_eval.proofs.Dynamic.Requiring.{item_with}
use Rattle.candidate_eval.proofs.objects.required.push_required.Given as goal

-- the bounds of the items before were added
abbrev pub invariant-loop-item : goal.invariant-loop-item
invariant-loop-item g l =
    let start = g.M.Build.context l.fn.make in
    AddedSoFar start (g.M.Build.context l.make) l.fn.list.items l.list.items (flat_map (item_with start (args_forest start.trees l.fn.trait_ref.args)) (take l.item-index l.item-items))
    × (g.M.Build.rest l.make ≡ g.M.Build.rest l.fn.make)

use Rattle.ir_trees.proofs.Growth.Made.{IsTy-grows, IsArgs-grows}
use Rattle.assembly_notation.proofs.building.projection_clause.Goals as goal

pub mk_clause-requires-clause-fits : goal.mk_clause-requires-clause-fits
mk_clause-requires-clause-fits c =
    let args = IsArgs-grows _ _ c.in_ok-args.args c.binder.ensures.grows c.in_ok-args.ensures.sort in
    let vars = c.in_ok-vars.ensures.sort in
    let now = IsTy-grows _ _ c.args.term c.args-2.ensures.kept c.requires.term in
    let term = IsTy-grows _ _ c.args.term c.binder.ensures.grows now in
    cc

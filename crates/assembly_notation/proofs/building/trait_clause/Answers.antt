use Rattle.ir_trees.proofs.Growth.Made.{IsArgs-grows}
use Rattle.assembly_notation.proofs.building.trait_clause.Goals as goal

pub mk_clause-requires-clause-fits : goal.mk_clause-requires-clause-fits
mk_clause-requires-clause-fits c =
    let args = IsArgs-grows _ _ c.args.trait_ref.args c.binder.ensures.grows c.requires in
    let vars = c.in_ok-vars.ensures.sort in
    cc
